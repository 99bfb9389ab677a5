-- The bits of `&` and of a half, the lowest bit that is 1 in a number of any width, and the level of a set by it. Assumes nothing.
use Rattle.std.proofs.Common.{◌≡◌, ℕ, zero, suc, ◌+◌, ◌/◌, ◌%◌, ◌^◌, ◌<◌, min, true, false, ◌&&◌, eqb, Some, refl, sym, ap, ◌∙◌, inl, inr, pow-suc, arith}
use lib.Bits.{bit_and}
use lib.Count.{under, count_trailing_zeros}
use Rattle.std.specs.Int.{bit_at}
use Rattle.std.proofs.lemmas.Nat.Bits.{bit_at-suc, bit_at_and, bit_at-lt}
use Rattle.std.proofs.lemmas.Bool.{cases_eq, cases_lt, true≢false, eq-eqb, ne_eqb}
use Rattle.std.proofs.lemmas.Bool.Decides.{nat_tests}
use Rattle.lines.specs.Sets.{bit, level_of}
use Rattle.lines.proofs.Digits as digits

and_small : (p q : ℕ) → p < 2 → q < 2 → eqb (min p q) 1 ≡ (eqb p 1 && eqb q 1)
and_small p q h g = grind (arith, nat_tests)

pub bit_of_and : (a b k : ℕ) → bit (bit_and a b) k ≡ (bit a k && bit b k)
unfolding bit
bit_of_and a b k = ap (λ d. eqb d 1) (bit_at_and a b k) ∙ and_small (bit_at a k) (bit_at b k) (bit_at-lt a k) (bit_at-lt b k)

pub bit_half : (a k : ℕ) → bit a (suc k) ≡ bit (a / 2) k
unfolding bit
bit_half a k = ap (λ d. eqb d 1) (bit_at-suc a k)

-- the lowest bit that is 1, and those below it
pub lowest : (w a : ℕ) → a < 2 ^ w → 0 < a → bit a (count_trailing_zeros w a) ≡ true
unfolding bit count_trailing_zeros
lowest zero a h g = absurd (omega arith)
lowest (suc w) a h g =
    let t : ℕ = count_trailing_zeros w (a / 2) in
    elim (cases_eq (a % 2) 0) [
      | inl e ↦ ap (λ d. bit a (under d t)) e ∙ bit_half a t ∙ lowest w (a / 2) (omega (arith, pow-suc 2 w)) (omega arith)
      | inr n ↦ let e : a % 2 ≡ 1 = omega arith in ap (λ d. bit a (under d t)) e ∙ eq-eqb (a / 1 % 2) 1 (omega arith)
    ]

even_below : (d t : ℕ) → 0 < under d t → d ≡ 0
even_below zero t h = refl
even_below (suc d) t h = absurd (omega arith)

less_below : (d t k : ℕ) → suc k < under d t → k < t
less_below zero t k h = omega arith
less_below (suc d) t k h = absurd (omega arith)

pub below_lowest : (w a k : ℕ) → k < count_trailing_zeros w a → bit a k ≡ false
unfolding bit count_trailing_zeros
below_lowest zero a k h = absurd (omega arith)
below_lowest (suc w) a zero h =
    let even : a % 2 ≡ 0 = even_below (a % 2) (count_trailing_zeros w (a / 2)) h in
    ne_eqb (a / 1 % 2) 1 (λ e. omega arith)
below_lowest (suc w) a (suc k) h = bit_half a k ∙ below_lowest w (a / 2) k (less_below (a % 2) (count_trailing_zeros w (a / 2)) k h)

-- the level of a set that is not empty
pub levelled : (a : ℕ) → a < 2048 → 0 < a → level_of (bit a) ≡ Some ((count_trailing_zeros 16 a + 1) / 2)
levelled a h g =
    let t : ℕ = count_trailing_zeros 16 a in
    let there : bit a t ≡ true = lowest 16 a (omega arith) g in
    let low : t < 11 = elim (cases_lt t 11) [ inl l ↦ l | inr l ↦ absurd (true≢false (sym there ∙ digits.bit_high a 11 t h l)) ] in
    digits.levelled a h ((t + 1) / 2) refl (omega arith)
