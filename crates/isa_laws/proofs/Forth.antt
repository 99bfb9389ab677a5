-- The laws, each by one test over the whole table of codes, which antt computes.
use Rattle.std.proofs.Common.{◌≡◌, ℕ, zero, suc, ◌<◌, Bool, true, false, cond, not, ◌&&◌, eqb, Some, None, Ok, Err, Option, sym, refl, ap, ◌∙◌, inl, inr, arith}
use Rattle.std.proofs.lemmas.Bool.{not-true, and_parts, eqb-true, false≢true, cases_eq}
use Rattle.isa.specs.Codes.{register_at, r1_at, r2_at, rp_at, rp1_at, rp2_at, rp3_at, rpa2_at, rpa3_at, flag_at, operation_at, line_coded}
use Rattle.isa.specs.Decoding.{Decoded, decoded, behind_48, behind_4c, behind_4d, behind_60, behind_64, behind_70, behind_74}
use Rattle.isa.specs.Encoding.{encoded}
use Rattle.isa.specs.declared.encoding.Opcode.{Opcode}
use Rattle.isa.specs.declared.encoding.Opcode.TheVariants.{One, Two}
use Rattle.isa.specs.declared.decoding.Undefined.TheVariants.{First, Second}
use Rattle.isa.specs.declared.instructions.Instruction.{Instruction}
use Rattle.isa_laws.specs.Laws.{prefix, Alone, Deciding, counted, begins, Inverse}
use Rattle.isa.proofs.Rows.{agree}
use Rattle.isa_laws.proofs.Back.{reached, wanted, back}

-- a test passes at each number below a bound
abbrev each : (ℕ → Bool) → ℕ → Bool
each f zero = true
each f (suc n) = f n && each f n

at : (f : ℕ → Bool) (n : ℕ) → each f n ≡ true → (k : ℕ) → k < n → f k ≡ true
at f zero t k h = absurd (omega arith)
at f (suc n) t k h =
    let p = and_parts (f n) (each f n) t in
    elim (cases_eq k n) [ inl e ↦ ap f e ∙ p.0 | inr e ↦ at f n p.1 k (omega arith) ]

-- what two bytes decode to has them for its opcode
abbrev right : ℕ → ℕ → Decoded → Bool
right first second (Ok i) = begins (encoded i) first second
right first second (Err u) = true

abbrev tried : ℕ → ℕ → Bool
tried second first = cond (prefix first) (each (λ s. right first s (decoded first s)) 256) (right first second (decoded first second))

all_tried : (second : ℕ) → each (tried second) 256 ≡ true
unfolding register_at r1_at r2_at rp_at rp1_at rp2_at rp3_at rpa2_at rpa3_at flag_at operation_at line_coded behind_48 behind_4c behind_4d behind_60 behind_64 behind_70 behind_74
all_tried second = refl

split : (b : Bool) (g : ℕ → Bool) (s : ℕ) → s < 256 → cond b (each g 256) (g s) ≡ true → g s ≡ true
split true g s h t = at g 256 t s h
split false g s h t = t

forth : (first second : ℕ) → first < 256 → second < 256 → (i : Instruction) → decoded first second ≡ Ok i → begins (encoded i) first second ≡ true
forth first second f s i e =
    sym (ap (right first second) e)
    ∙ split (prefix first) (λ s. right first s (decoded first s)) second s (at (tried second) 256 (all_tried second) first f)

close : (o : Option Opcode) (i : Instruction) (first second : ℕ) → reached second o ≡ wanted o i → begins o first second ≡ true → decoded first second ≡ Ok i
close None i first second e h = absurd (false≢true h)
close (Some (One a)) i first second e h = let p = eqb-true a first h in cc
close (Some (Two a b)) i first second e h =
    let q = and_parts (eqb a first) (eqb b second) h in
    let p = eqb-true a first q.0 in
    let r = eqb-true b second q.1 in
    cc

pub inverse : Inverse
inverse first second f s i = (λ h. close (encoded i) i first second (back second i) h, forth first second f s i)

pub alone : Alone
unfolding register_at r1_at r2_at rp_at rp1_at rp2_at rp3_at rpa2_at rpa3_at flag_at operation_at line_coded
alone first a b f e =
    let same : (x : Bool) (c d : Decoded) → x ≡ false → cond x (Err First) c ≡ cond x (Err First) d → c ≡ d = unless in
    same (prefix first) (decoded first a) (decoded first b) e
    (agree (λ n. cond (prefix n) (Err First) (decoded n a)) (λ n. cond (prefix n) (Err First) (decoded n b)) 0 256 refl first (omega arith) (omega arith))
  where
    unless : (x : Bool) (c d : Decoded) → x ≡ false → cond x (Err First) c ≡ cond x (Err First) d → c ≡ d
    unless true c d e h = absurd (false≢true (sym e))
    unless false c d e h = h

pub count : 1082 ≡ counted
unfolding counted register_at r1_at r2_at rp_at rp1_at rp2_at rp3_at rpa2_at rpa3_at flag_at operation_at line_coded behind_48 behind_4c behind_4d behind_60 behind_64 behind_70 behind_74
count = refl

-- an undefined code is blamed on the byte that decides it
abbrev blamed : ℕ → Decoded → Bool
blamed first (Ok i) = true
blamed first (Err First) = not (prefix first)
blamed first (Err Second) = prefix first

abbrev weighed : ℕ → ℕ → Bool
weighed second first = cond (prefix first) (each (λ s. blamed first (decoded first s)) 256) (blamed first (decoded first second))

all_weighed : (second : ℕ) → each (weighed second) 256 ≡ true
unfolding register_at r1_at r2_at rp_at rp1_at rp2_at rp3_at rpa2_at rpa3_at flag_at operation_at line_coded behind_48 behind_4c behind_4d behind_60 behind_64 behind_70 behind_74
all_weighed second = refl

pub deciding : Deciding
deciding first second f s =
    let t = split (prefix first) (λ s. blamed first (decoded first s)) second s (at (weighed second) 256 (all_weighed second) first f) in
    (λ e. not-true (prefix first) (sym (ap (blamed first) e) ∙ t), λ e. sym (ap (blamed first) e) ∙ t)
