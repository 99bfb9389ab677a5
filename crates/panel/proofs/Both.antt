-- Passing states under rules before others is passing them under each. Assumes nothing.
use Rattle.std.proofs.Common.{◌≡◌, ℕ, zero, suc, Bool, true, false, ◌||◌, sym, refl, ap, ◌∙◌}
use Rattle.panel.specs.Rules.{Rules, passed, rose}
use Rattle.panel.specs.Stacked.{stacked, before}

swapped : (a b c d : Bool) → ((a || b) || (c || d)) ≡ ((a || c) || (b || d))
swapped true b c d = refl
swapped false true true d = refl
swapped false true false d = refl
swapped false false c d = refl

module _ {A B : Type 0} (owns : ℕ → Bool) (front : Rules A) (behind : Rules B) (a : A) (b : B) where
  pub passed_both : (n : ℕ) → passed (before owns front behind) (stacked a b) n ≡ stacked (passed front a n) (passed behind b n)
  unfolding passed
  passed_both zero = refl
  passed_both (suc n) = ap (before owns front behind).state (passed_both n)

  pub rose_both : (n : ℕ) → rose (before owns front behind) (stacked a b) n ≡ (λ k. rose front a n k || rose behind b n k)
  unfolding rose passed
  rose_both zero = refl
  rose_both (suc n) =
      (λ i k. rose_both n i k || (before owns front behind).rising (passed_both n i) k)
      ∙ (λ i k. swapped (rose front a n k) (rose behind b n k) (front.rising (passed front a n) k) (behind.rising (passed behind b n) k) i)

  -- what a front panel's own pass of n states and the pass behind it come to
  pub both_passed : (n : ℕ) {x : A} {y : B} → x ≡ passed front a n → y ≡ passed behind b n
      → stacked x y ≡ passed (before owns front behind) (stacked a b) n
  both_passed n p q = (λ i. stacked (p i) (q i)) ∙ sym (passed_both n)

  pub both_rose : (n : ℕ) {own others all : ℕ → Bool} → own ≡ rose front a n → others ≡ rose behind b n → all ≡ (λ k. own k || others k)
      → all ≡ rose (before owns front behind) (stacked a b) n
  both_rose n p q j = j ∙ (λ i k. p i k || q i k) ∙ sym (rose_both n)
