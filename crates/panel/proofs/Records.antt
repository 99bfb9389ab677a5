-- Records in order of their numbers, and which of them are due. Assumes nothing.
use Rattle.std.proofs.Common.{◌≡◌, ℕ, zero, suc, ◌+◌, ◌-◌, ◌<◌, ◌≤◌, Bool, true, false, cond, ◌&&◌, ◌||◌, eqb, ltb, leb, List, [], ◌∷◌, length, get_or, take, drop, sym, refl, ap, ◌∙◌, subst, inl, inr, arith}
use Rattle.std.proofs.Math.Numerals.{one-add}
use Rattle.std.specs.List.{prefix_len}
use Rattle.std.proofs.lemmas.List.Sums.{prefix_len-le-length, prefix_len_passes, prefix_len_stops}
use mathlib.Core.Path.{fun_ext}
use Rattle.std.proofs.lemmas.List.{length-drop, get_or-drop, at_drop_more}
use Rattle.std.proofs.lemmas.Bool.{cases_lt, lt-leb, le-leb, leb-true, leb-false}
use Rattle.std.proofs.lemmas.Bool.Decides.{nat_tests}
use Rattle.panel.specs.declared.schedule.Due.{Due}
use Rattle.panel.specs.Places.{InOrder, Gone, Coming, lines_in, due_in, no_record}
use Rattle.panel.specs.Schedule.{scheduled}

pub none_in : (ds : List Due) (clock line : ℕ) → due_in ds clock clock line ≡ false
none_in [] clock line = refl
none_in (d ∷ ds) clock line = let rest = none_in ds clock line in grind (arith, nat_tests)

pub one_in : (ds : List Due) (after until line : ℕ) → after ≤ until
    → due_in ds after (until + 1) line ≡ (due_in ds after until line || (ltb line 11 && scheduled ds (until + 1) line))
one_in [] after until line h = grind (arith, nat_tests)
one_in (d ∷ ds) after until line h = let rest = one_in ds after until line h in grind (arith, nat_tests)

none_due : (ds : List Due) (after until line : ℕ) → Coming ds 0 until → due_in ds after until line ≡ false
none_due [] after until line later = refl
none_due (d ∷ ds) after until line later =
    let head : until < d.at = later 0 (omega arith) (omega arith) in
    let rest : due_in ds after until line ≡ false = none_due ds after until line (λ k h g. later (suc k) (omega arith) (omega arith)) in
    grind (arith, nat_tests)

-- a record with a number up to this one
abbrev pub by : ℕ → Due → Bool
by until d = leb d.at until

-- the records from the first on whose numbers are up to this one
abbrev pub front : ℕ → List Due → List Due
front until ds = take (prefix_len (by until) ds) ds

-- a record in front, and those behind it
pub front_more : (ds : List Due) (i until : ℕ) → i < length ds → (get_or ds i no_record).at ≤ until
    → (prefix_len (by until) (drop i ds) ≡ 1 + prefix_len (by until) (drop (i + 1) ds))
    × ((line : ℕ) → lines_in (front until (drop i ds)) line
    ≡ ((eqb (get_or ds i no_record).line line && ltb line 11) || lines_in (front until (drop (i + 1) ds)) line))
front_more ds i until h up =
    let d : Due = get_or ds i no_record in
    let behind : List Due = drop (i + 1) ds in
    let yes : leb d.at until ≡ true = le-leb d.at until up in (
      at_drop_more (prefix_len (by until)) ds i no_record h ∙ ap (λ b. cond b (1 + prefix_len (by until) behind) 0) yes,
      λ line. at_drop_more (λ xs. lines_in (front until xs) line) ds i no_record h
          ∙ ap (λ b. lines_in (take (cond b (1 + prefix_len (by until) behind) 0) (d ∷ behind)) line) yes
          ∙ ap (λ n. lines_in (take n (d ∷ behind)) line) (one-add (prefix_len (by until) behind)),
    )

-- where the next is later, or there is none, the lines found before it are those of the front
pub front_ends : (ds : List Due) (i until : ℕ) (found : ℕ → Bool) → prefix_len (by until) (drop i ds) ≡ 0
    → i + prefix_len (by until) (drop i ds) ≡ prefix_len (by until) ds
    → ((line : ℕ) → (found line || lines_in (front until (drop i ds)) line) ≡ lines_in (front until ds) line)
    → found ≡ lines_in (take i ds)
front_ends ds i until found none place keeps =
    let whole : prefix_len (by until) ds ≡ i = omega (arith, none, place) in
    fun_ext (λ line.
    let empty : lines_in (front until (drop i ds)) line ≡ false = ap (λ n. lines_in (take n (drop i ds)) line) none in
    let those : lines_in (front until ds) line ≡ lines_in (take i ds) line = ap (λ n. lines_in (take n ds) line) whole in
    let all = keeps line in
    grind (arith, nat_tests))

-- the records due are those from the place on whose numbers the clock comes to
pub due_from : (ds : List Due) (place clock until line : ℕ) → InOrder ds → Gone ds place clock → Coming ds place clock
    → lines_in (take (prefix_len (by until) (drop place ds)) (drop place ds)) line ≡ due_in ds clock until line
due_from [] zero clock until line order gone later = refl
due_from [] (suc place) clock until line order gone later = refl
due_from (d ∷ ds) zero clock until line order gone later =
    let head : clock < d.at = later 0 (omega arith) (omega arith) in
    let rest = due_from ds zero clock until line (λ i j h g. order (suc i) (suc j) (omega arith) (omega arith))
    (omega arith, λ k h. absurd (omega arith)) (λ k h g. later (suc k) (omega arith) (omega arith)) in
    elim (cases_lt until d.at) [
      | inl before ↦
          let none : due_in (d ∷ ds) clock until line ≡ false = none_due (d ∷ ds) clock until line (λ k h g. omega (arith, order 0 k (omega arith) g)) in
          ap (λ b. lines_in (take (cond b (1 + prefix_len (by until) ds) 0) (d ∷ ds)) line) (lt-leb d.at until before) ∙ sym none
      | inr there ↦
          ap (λ b. lines_in (take (cond b (1 + prefix_len (by until) ds) 0) (d ∷ ds)) line) (le-leb d.at until there)
          ∙ ap (λ n. lines_in (take n (d ∷ ds)) line) (one-add (prefix_len (by until) ds)) ∙ grind (arith, nat_tests)
    ]
due_from (d ∷ ds) (suc place) clock until line order gone later =
    let head : d.at ≤ clock = gone.1 0 (omega arith) in
    let rest = due_from ds place clock until line (λ i j h g. order (suc i) (suc j) (omega arith) (omega arith))
    (omega (arith, gone.0), λ k h. gone.1 (suc k) (omega arith)) (λ k h g. later (suc k) (omega arith) (omega arith)) in
    grind (arith, nat_tests)

-- the place after those records
module _ (ds : List Due) (place clock until : ℕ) (gone : Gone ds place clock) (on : clock ≤ until) where
  abbrev n : ℕ
  n = prefix_len (by until) (drop place ds)

  pub gone_after : Gone ds (place + n) until
  gone_after = (
    omega (arith, gone.0, prefix_len-le-length (by until) (drop place ds), length-drop place ds),
    λ k h. elim (cases_lt k place) [
      | inl past ↦ omega (arith, gone.1 k past)
      | inr more ↦
          let passes = prefix_len_passes (by until) (drop place ds) (k - place) no_record (omega arith) in
          let is : place + (k - place) ≡ k = omega arith in
          let at = get_or-drop place ds (k - place) no_record ∙ ap (λ j. get_or ds j no_record) is in
          subst (λ (d : Due). d.at ≤ until) at (leb-true _ until passes)
    ],
  )

  pub coming_after : InOrder ds → Coming ds (place + n) until
  coming_after order k h g =
      let stops = prefix_len_stops (by until) (drop place ds) no_record (omega (arith, length-drop place ds)) in
      let first : until < (get_or ds (place + n) no_record).at =
      subst (λ (d : Due). until < d.at) (get_or-drop place ds n no_record) (leb-false _ until stops) in
      omega (arith, order (place + n) k h g)
