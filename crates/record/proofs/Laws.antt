-- Reading and writing are inverse. Assumes nothing.
use Rattle.std.proofs.Common.{◌≡◌, ℕ, suc, ◌+◌, ◌*◌, ◌/◌, ◌%◌, ◌<◌, ◌≤◌, Bool, true, false, cond, ltb, List, [], ◌∷◌, ◌++◌, length, get_or, take, drop, Some, None, Ok, Err, Option, Result, sym, refl, ap, ◌∙◌, subst, one-add, arith}
use Rattle.std.proofs.lemmas.List.{get_or-drop, length-append, take_at, length-take-le}
use Rattle.std.proofs.lemmas.Bool.{ltb-false, eqb-true, eq-eqb}
use Rattle.std.proofs.lemmas.Bool.Decides.{nat_tests}
use Rattle.record.specs.declared.kind.Kind.{Kind}
use Rattle.record.specs.declared.kind.Kind.TheVariants.{Cell as CELL, Page as PAGE, Fix as FIX, Set as SET, Grant as GRANT, Signal as SIGNAL, Reset as RESET, End as END}
use Rattle.record.specs.declared.fault.RecordFault.{RecordFault}
use Rattle.record.specs.declared.fault.RecordFault.TheVariants.{CutShort, NoRoom}
use Rattle.record.specs.Law.{Fits, reread, Rewrites}
use Rattle.record.specs.Wire.{Said, cell, page, fix, set, grant, signal, reset, end, wire, whole, code, kind_of, body_length, meant, reading, reading_as, write_answer, write_over}

-- every element is a byte
abbrev pub Bytes : List ℕ → Type 0
Bytes bs = (i : ℕ) → get_or bs i 0 < 256

written_read : (r : Said) (rest : List ℕ) → Fits r → whole r ≡ true → reading (wire r ++ rest) ≡ Ok (r, length (wire r))
written_read (cell a b) rest f w = grind (arith, nat_tests)
written_read (page p bs) rest f w =
    let l = eqb-true (length bs) 256 w in
    let h = length-append bs rest in
    let t = take_at bs rest 256 l in grind (arith, nat_tests)
written_read (fix x) rest f w = grind (arith, nat_tests)
written_read (set r v) rest f w = grind (arith, nat_tests)
written_read (grant n) rest f w = grind (arith, nat_tests)
written_read (signal l) rest f w = grind (arith, nat_tests)
written_read reset rest f w = grind (arith, nat_tests)
written_read end rest f w = grind (arith, nat_tests)

-- a buffer after a write, read
pub rereads : (r : Said) (buffer : List ℕ) → Fits r → reading (write_over r buffer) ≡ reread (write_answer r buffer) r buffer
rereads r buffer f = chosen (whole r) (ltb (length buffer) (length (wire r))) (wire r) (written_read r (drop (length (wire r)) buffer) f)
  where
    chosen : (w l : Bool) (ws : List ℕ) → (w ≡ true → reading (ws ++ drop (length ws) buffer) ≡ Ok (r, length ws))
        → reading (cond w (cond l buffer (ws ++ drop (length ws) buffer)) buffer) ≡ reread (cond w (cond l (Err NoRoom) (Ok (length ws))) (Err NoRoom)) r buffer
    chosen true true ws h = refl
    chosen true false ws h = h refl
    chosen false l ws h = refl

-- a number's two bytes, and its four
two : (x y : ℕ) → x < 256 → y < 256 → ((x + 256 * (y + 256 * 0)) % 256 ≡ x) × ((x + 256 * (y + 256 * 0)) / 256 ≡ y)
two x y h g = (omega arith, omega arith)

four : (x y z w n : ℕ) → x < 256 → y < 256 → z < 256 → w < 256 → n ≡ x + 256 * (y + 256 * (z + 256 * (w + 256 * 0)))
    → (n % 256 ≡ x) × (n / 256 % 256 ≡ y) × (n / 65536 % 256 ≡ z) × (n / 16777216 ≡ w)
four x y z w n h g i j e = (omega arith, omega arith, omega arith, omega arith)

-- the record that a whole body means has that kind and that body as its bytes
body_again : (kind : Kind) (bs : List ℕ) → body_length kind ≤ length bs → Bytes bs
    → (wire (meant kind bs) ≡ code kind ∷ take (body_length kind) bs) × (whole (meant kind bs) ≡ true)
body_again CELL [] l b = absurd (omega arith)
body_again CELL (x ∷ []) l b = absurd (omega arith)
body_again CELL (x ∷ y ∷ []) l b = absurd (omega arith)
body_again CELL (x ∷ y ∷ z ∷ t) l b = let p = two x y (b 0) (b 1) in (cc, refl)
body_again PAGE [] l b = absurd (omega arith)
body_again PAGE (x ∷ t) l b = (refl, eq-eqb (length (take 256 t)) 256 (length-take-le 256 t (omega arith)))
body_again FIX [] l b = absurd (omega arith)
body_again FIX (x ∷ []) l b = absurd (omega arith)
body_again FIX (x ∷ y ∷ t) l b = let p = two x y (b 0) (b 1) in (cc, refl)
body_again SET [] l b = absurd (omega arith)
body_again SET (x ∷ []) l b = absurd (omega arith)
body_again SET (x ∷ y ∷ []) l b = absurd (omega arith)
body_again SET (x ∷ y ∷ z ∷ t) l b = let p = two y z (b 1) (b 2) in (cc, refl)
body_again GRANT [] l b = absurd (omega arith)
body_again GRANT (x ∷ []) l b = absurd (omega arith)
body_again GRANT (x ∷ y ∷ []) l b = absurd (omega arith)
body_again GRANT (x ∷ y ∷ z ∷ []) l b = absurd (omega arith)
body_again GRANT (x ∷ y ∷ z ∷ w ∷ t) l b = let p = four x y z w _ (b 0) (b 1) (b 2) (b 3) refl in (cc, refl)
body_again SIGNAL bs l b = grind (arith, nat_tests)
body_again RESET bs l b = (refl, refl)
body_again END bs l b = (refl, refl)

kind_code : (byte : ℕ) (kind : Kind) → kind_of byte ≡ Some kind → code kind ≡ byte
kind_code byte kind e = grind (arith, nat_tests)

-- what a record that was read says: it has the bytes it was read from
pub record Read (bytes : List ℕ) (r : Said) (n : ℕ) : Type 0 where
  pub some : 0 < n
  pub inside : n ≤ length bytes
  pub same : wire r ≡ take n bytes
  pub size : n ≡ length (wire r)
  pub is_whole : whole r ≡ true

in_body : (kind : Kind) (bs : List ℕ) (cut : Bool) (r : Said) (n : ℕ) → Bytes bs → ltb (length bs) (body_length kind) ≡ cut
    → cond {A = Result (Said × ℕ) RecordFault} cut (Err CutShort) (Ok (meant kind bs, 1 + body_length kind)) ≡ Ok (r, n) → Read (code kind ∷ bs) r n
in_body kind bs true r n b l e = absurd (grind arith)
in_body kind bs false r n b l e =
    let m : meant kind bs ≡ r = grind arith in
    let j : 1 + body_length kind ≡ n = grind arith in
    let h = ltb-false (length bs) (body_length kind) l in
    let w = body_again kind bs h b in
    let t : take (1 + body_length kind) (code kind ∷ bs) ≡ code kind ∷ take (body_length kind) bs = rw one-add in
    let v : wire r ≡ code kind ∷ take (body_length kind) bs = sym (ap wire m) ∙ w.0 in
    record {
      some = omega arith;
      inside = omega arith;
      same = v ∙ sym t ∙ ap (λ k. take k (code kind ∷ bs)) j;
      size = omega (arith, ap length v, length-take-le (body_length kind) bs h);
      is_whole = ap whole (sym m) ∙ w.1;
    }

of_kind : (byte : ℕ) (bs : List ℕ) (o : Option Kind) (r : Said) (n : ℕ) → Bytes bs → kind_of byte ≡ o → reading_as o bs ≡ Ok (r, n) → Read (byte ∷ bs) r n
of_kind byte bs None r n b k e = absurd (grind arith)
of_kind byte bs (Some kind) r n b k e =
    let P : ℕ → Type 0 = λ x. Read (x ∷ bs) r n in
    subst P (kind_code byte kind k) (in_body kind bs (ltb (length bs) (body_length kind)) r n b refl e)

pub reads : (bytes : List ℕ) (r : Said) (n : ℕ) → Bytes bytes → reading bytes ≡ Ok (r, n) → Read bytes r n
reads [] r n b e = absurd (grind arith)
reads (byte ∷ bs) r n b e = of_kind byte bs (kind_of byte) r n (λ i. b (suc i)) refl e

-- a record with the bytes it was read from is written as these
pub rewrites : (bytes : List ℕ) (r : Said) (n : ℕ) → Read bytes r n → Rewrites bytes r n
rewrites bytes r n p buffer = (rw (p.is_whole, ← p.size), rw (p.is_whole, ← p.size, p.same))

-- the same of a part of some bytes
pub reads_at : (bytes part : List ℕ) (offset : ℕ) (r : Said) (n : ℕ) → Bytes bytes → part ≡ drop offset bytes → Ok (r, n) ≡ reading part → Read (drop offset bytes) r n
reads_at bytes part offset r n b e h = reads (drop offset bytes) r n (λ i. rw get_or-drop (b (offset + i))) (sym (h ∙ ap reading e))
