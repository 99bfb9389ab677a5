-- One text put behind another is both put as one. Assumes nothing.
use Rattle.std.proofs.Common.{◌≡◌, ℕ, ◌+◌, ◌-◌, ◌≤◌, List, [], ◌++◌, length, take, drop, refl, ap, ◌∙◌, subst, arith}
use borrow.Rule.Slice.PartMut.{put_mid}
use Rattle.std.proofs.lemmas.List.{append_assoc, length-append, length-take-le, length-drop, take_at, drop-drop}
use Rattle.std.proofs.lemmas.Slice.{drop-append-drop}
use Rattle.session.specs.declared.listing.Listing.{Listing}
use Rattle.session.specs.Appends.{Appends}
use Rattle.session.specs.Text.{over, Puts}

over_length : (old : List ℕ) (at : ℕ) (t : List ℕ) → at + length t ≤ length old → length (over old at t) ≡ length old
unfolding over
over_length old at t h = let l : at ≤ length old = omega arith in simp (length-append, length-drop, length-take-le at old l) (omega arith)

-- what a copy into a part of the buffer makes
pub copied : (old : List ℕ) (at : ℕ) (t part : List ℕ) → at + length t ≤ length old → part ≡ t → Puts old at t (put_mid at (at + length t - at) old part) (at + length t)
unfolding over
copied old at t part h e =
    let n : at + length t - at ≡ length t = omega arith in
    let a : put_mid at (at + length t - at) old part ≡ over old at t = simp (e, n, drop-drop, append_assoc) in
    record { after = a; moves = refl; inside = h; size = ap length a ∙ over_length old at t h }

over_over : (old : List ℕ) (at : ℕ) (t u : List ℕ) → at ≤ length old → over (over old at t) (at + length t) u ≡ over old at (t ++ u)
unfolding over
over_over old at t u h =
    let put = take at old ++ t in
    let n : length put ≡ at + length t = simp (length-append, length-take-le at old h) in
    let e : at + length t + length u ≡ at + length (t ++ u) = omega (arith, length-append t u) in
    rw (
      take_at put (drop (at + length t) old) (at + length t) n,
      drop-append-drop (at + length t) old put (at + length t + length u) (omega arith) n,
      e,
    ) (ap (λ x. x ++ drop (at + length (t ++ u)) old) (append_assoc (take at old) t u))

joined : {old mid new : List ℕ} {at p q : ℕ} {t u : List ℕ} → Puts old at t mid p → Puts mid p u new q → Puts old at (t ++ u) new q
joined {old} {mid} {new} {at} {p} {q} {t} {u} a b =
    let h : at + length t ≤ length old = omega (arith, a.moves, a.inside) in
    let l = ap length a.after ∙ over_length old at t h in record {
      after = b.after ∙ ap (λ m. over m p u) a.after ∙ ap (λ x. over (over old at t) x u) a.moves ∙ over_over old at t u (omega arith);
      moves = omega (arith, a.moves, b.moves, length-append t u);
      inside = omega (arith, b.inside, l);
      size = b.size ∙ a.size;
    }

infixl 5 ◌▸◌
pub ◌▸◌ : {k l m : Listing} {t u : List ℕ} → Appends k t l → Appends l u m → Appends k (t ++ u) m
◌▸◌ a b = record { same = b.same ∙ a.same; puts = joined a.puts b.puts }

-- the same text in other words
pub reworded : {k l : Listing} {t u : List ℕ} → t ≡ u → Appends k t l → Appends k u l
reworded {k} {l} e p = let P : List ℕ → Type 0 = λ x. Appends k x l in subst P e p

-- nothing put at the start
pub puts_none : (old : List ℕ) → Puts old 0 [] old 0
unfolding over
puts_none old = record { after = refl; moves = refl; inside = omega arith; size = refl }

-- what was put at the start is the front of the buffer
pub front : {old new : List ℕ} {n : ℕ} {t : List ℕ} → Puts old 0 t new n → take n new ≡ t
unfolding over
front {old} {new} {n} {t} p = ap (take n) p.after ∙ take_at t (drop (0 + length t) old) n (omega (arith, p.moves))
