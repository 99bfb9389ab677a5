-- What sorting a schedule gives. Assumes nothing.
use Rattle.std.proofs.Common.{◌≡◌, ℕ, ◌+◌, ◌≤◌, false, cond, ◌&&◌, eqb, ltb, List, [], ◌∷◌, get_or, sum_by, sym, refl, ap, ◌∙◌, arith}
use Rattle.std.specs.Ordering.{is_lt}
use Rattle.std.specs.List.Sorted.{IsPermutation, IsSorted}
use Rattle.std.proofs.lemmas.List.Sorted.{sum_by-IsPermutation, IsNonDecreasingBy-from_all_adjacent}
use Rattle.std.proofs.lemmas.List.Sums.{sum_by-cons}
use Rattle.std.proofs.lemmas.Bool.Decides.{nat_tests}
use Rattle.panel.specs.declared.schedule.Due.{Due}
use Rattle.panel.specs.contracts.schedule.DueOrd.TheImpl.{ghosts}
use Rattle.panel.specs.Places.{InOrder, no_record}
use Rattle.panel.specs.Schedule.{scheduled}

-- records are ordered by their numbers, and then by their lines
not_before : (x y : Due) → is_lt (ghosts.cmp y x) ≡ false → x.at ≤ y.at
not_before x y h = grind (arith, nat_tests)

pub in_order : (ds : List Due) → IsSorted ghosts.cmp ds → InOrder ds
in_order ds up i j h g =
    IsNonDecreasingBy-from_all_adjacent (λ d. d.at) ds (λ k d l. not_before (get_or ds k d) (get_or ds (k + 1) d) (up k d (omega arith) l)) i j no_record h g

abbrev hit : ℕ → ℕ → Due → ℕ
hit number line d = cond (eqb d.at number && eqb d.line line) 1 0

counts : (ds : List Due) (number line : ℕ) → scheduled ds number line ≡ ltb 0 (sum_by (hit number line) ds)
counts [] number line = refl
counts (d ∷ ds) number line = let rest = counts ds number line in let sum = sum_by-cons (hit number line) d ds in grind (arith, nat_tests)

-- the same records in another order
pub same_records : (xs ys : List Due) → IsPermutation xs ys → scheduled ys ≡ scheduled xs
same_records xs ys h = λ i number line.
    (counts ys number line ∙ ap (ltb 0) (sum_by-IsPermutation (hit number line) xs ys h) ∙ sym (counts xs number line)) i
