-- The bits of `|`, `&`, `^`, of a power of two, and the lowest and highest bit. Assumes nothing.
use Rattle.std.proofs.Common.{◌≡◌, ℕ, zero, suc, ◌+◌, ◌*◌, ◌/◌, ◌%◌, ◌^◌, ◌<◌, ◌≤◌, min, max, w16, Bool, true, false, cond, not, ◌&&◌, ◌||◌, eqb, ltb, Some, None, sym, refl, ap, ◌∙◌, inl, inr, arith, below_none, below_more}
use mathlib.Core.Path.{fun_ext}
use lib.Bits.{or_lt, xor_lt, and_le_l, bit_and, bit_or, bit_xor}
use lib.Count.{count_trailing_zeros}
use Rattle.std.specs.Int.{bit_at}
use Rattle.std.proofs.lemmas.Nat.{one_shl, pow_below}
use Rattle.std.proofs.lemmas.Nat.Bits.{bit_at-suc, bit_at-zero, bit_at_and, bit_at_or, bit_at_xor, bit_at-pow_same, bit_at-pow_other, bit_at-trailing_zeros, bit_at-lt, same_from_bits, bit_at_above}
use Rattle.std.proofs.lemmas.Bool.{cases_eq, cases_lt, eqb-false, eq-eqb, ne_eqb}
use Rattle.std.proofs.lemmas.Bool.Decides.{nat_tests}
use Rattle.lines.specs.declared.set.Lines.{Lines}
use Rattle.lines.specs.Of.{lines_of}
use Rattle.lines.specs.Sets.{bit, with_line, without, unmasked_by, level_of}

or_small : (p q : ℕ) → p < 2 → q < 2 → eqb (max p q) 1 ≡ (eqb p 1 || eqb q 1)
or_small p q h g = grind (arith, nat_tests)

-- `a ^ (a & b)` takes b's bits out of a
out_small : (p q : ℕ) → p < 2 → q < 2 → eqb ((p + min p q) % 2) 1 ≡ (eqb p 1 && not (eqb q 1))
out_small p q h g = grind (arith, nat_tests)

module _ (a b k : ℕ) where
  pub bit_of_or : bit (bit_or a b) k ≡ (bit a k || bit b k)
  unfolding bit
  bit_of_or = ap (λ d. eqb d 1) (bit_at_or a b k) ∙ or_small (bit_at a k) (bit_at b k) (bit_at-lt a k) (bit_at-lt b k)

  pub bit_out : bit (bit_xor a (bit_and a b)) k ≡ (bit a k && not (bit b k))
  unfolding bit
  bit_out = ap (λ d. eqb d 1) (bit_at_xor a (bit_and a b) k ∙ ap (λ d. (bit_at a k + d) % 2) (bit_at_and a b k))
      ∙ out_small (bit_at a k) (bit_at b k) (bit_at-lt a k) (bit_at-lt b k)

pub bit_zero : (k : ℕ) → bit 0 k ≡ false
unfolding bit
bit_zero k = ap (λ d. eqb d 1) (bit_at-zero k)

-- nothing stands at or above a bound
pub bit_high : (a n k : ℕ) → a < 2 ^ n → n ≤ k → bit a k ≡ false
unfolding bit
bit_high a n k h g = ap (λ d. eqb d 1) (bit_at_above a n k h g)

pub bit_power : (j k : ℕ) → bit (2 ^ j) k ≡ eqb k j
unfolding bit
bit_power j k = elim (cases_eq k j) [
  | inl e ↦ ap (λ i. eqb (bit_at (2 ^ j) i) 1) e ∙ ap (λ d. eqb d 1) (bit_at-pow_same j) ∙ sym (eq-eqb k j e)
  | inr ne ↦ ap (λ d. eqb d 1) (bit_at-pow_other j k ne) ∙ sym (ne_eqb k j ne)
]

-- a number without bits is 0
pub no_bits : (a : ℕ) → ((k : ℕ) → bit a k ≡ false) → a ≡ 0
unfolding bit
no_bits a none = same_from_bits a 0 (λ k. omega (arith, eqb-false (bit_at a k) 1 (none k), bit_at-lt a k, bit_at-zero k))

-- what `x / 2 * 2` leaves
bit_even : (m k : ℕ) → bit (m / 2 * 2) k ≡ (bit m k && ltb 0 k)
unfolding bit
bit_even m zero = let even : bit_at (m / 2 * 2) 0 ≡ 0 = omega arith in grind (arith, nat_tests)
bit_even m (suc k) =
    let same : bit_at (m / 2 * 2) (suc k) ≡ bit_at m (suc k) = bit_at-suc (m / 2 * 2) k ∙ ap (λ n. bit_at n k) (omega arith) ∙ sym (bit_at-suc m k) in
    grind (arith, nat_tests)

-- a set whose lowest line is t
abbrev from : (ℕ → Bool) → ℕ → ℕ → Bool
from a t k = cond (ltb k t) false (cond (eqb k t) true (a k))

from_levels : (a : ℕ → Bool) (t : ℕ) → t < 11 → level_of (from a t) ≡ Some ((t + 1) / 2)
from_levels a =
    let P : ℕ → Type 0 = λ t. level_of (from a t) ≡ Some ((t + 1) / 2) in
    let more = below_more P in
    more 10 (more 9 (more 8 (more 7 (more 6 (more 5 (more 4 (more 3 (more 2 (more 1 (more 0 (below_none P) refl) refl) refl) refl) refl) refl) refl) refl) refl) refl) refl

-- the lowest line of a set that has one
module _ (a : ℕ) (ok : a < 2048) where
  abbrev t : ℕ
  t = count_trailing_zeros 16 a

  lowest : 0 < a → (t < 11) × (bit a t ≡ true) × ((k : ℕ) → k < t → bit a k ≡ false)
  unfolding bit
  lowest some =
      let all = bit_at-trailing_zeros w16 a some (omega arith) in (
        elim (cases_lt t 11) [ inl l ↦ l | inr l ↦ absurd (omega (arith, all.1, bit_at_above a 11 t ok l)) ],
        ap (λ d. eqb d 1) all.1,
        λ k h. ap (λ d. eqb d 1) (all.2 k h),
      )

  pub no_level : 11 ≤ t → level_of (bit a) ≡ None
  no_level g =
      let none : a ≡ 0 = elim (cases_lt 0 a) [ inl some ↦ absurd (omega (arith, (lowest some).0)) | inr l ↦ omega arith ] in
      ap (λ n. level_of (bit n)) none ∙ (λ i. level_of (λ k. bit_zero k i))

  pub levelled : (n : ℕ) → (t + 1) / 2 ≡ n → n < 6 → level_of (bit a) ≡ Some n
  unfolding count_trailing_zeros
  levelled n e small =
      let zero : count_trailing_zeros 16 0 ≡ 16 = refl in
      let some : 0 < a = elim (cases_lt 0 a) [ inl l ↦ l | inr l ↦ absurd (let none : a ≡ 0 = omega arith in omega (arith, ap (count_trailing_zeros 16) none)) ] in
      let low = lowest some in
      ap level_of (fun_ext (λ k. starts (bit a) t low.1 low.2 k)) ∙ from_levels (bit a) t low.0 ∙ ap Some e
    where
      starts : (b : ℕ → Bool) (t : ℕ) → b t ≡ true → ((j : ℕ) → j < t → b j ≡ false) → (k : ℕ) → b k ≡ from b t k
      starts b t e low k =
          let at : k ≡ t → b k ≡ true = λ same. ap b same ∙ e in
          let under : k < t → b k ≡ false = low k in
          grind (arith, nat_tests)

module _ (a : ℕ) (ok : a < 2048) where
  pub out_lt : (b : ℕ) → bit_xor a (bit_and a b) < 2048
  out_lt b = xor_lt 11 a (bit_and a b) ok (omega (arith, and_le_l a b))

  module _ (line : ℕ) (h : line < 11) where
    shifted : (1 * 2 ^ line) % 65536 ≡ 2 ^ line
    shifted = one_shl line 16 (omega arith)

    pub in_lt : bit_or a ((1 * 2 ^ line) % 65536) < 2048
    in_lt = or_lt 11 a ((1 * 2 ^ line) % 65536) ok (omega (arith, shifted, pow_below line 11 h))

    pub inserted : bit (bit_or a ((1 * 2 ^ line) % 65536)) ≡ with_line (bit a) line
    inserted = fun_ext (λ k. bit_of_or a ((1 * 2 ^ line) % 65536) k ∙ ap (λ b. bit a k || b) (ap (λ n. bit n k) shifted ∙ bit_power line k))

    pub removed : bit (bit_xor a (bit_and a ((1 * 2 ^ line) % 65536))) ≡ without (bit a) line
    removed = fun_ext (λ k. bit_out a ((1 * 2 ^ line) % 65536) k
        ∙ ap (λ b. bit a k && not b) (ap (λ n. bit n k) shifted ∙ bit_power line k))

pub unmask : (a m : ℕ) → bit (bit_xor a (bit_and a (m / 2 * 2))) ≡ unmasked_by m (bit a)
unmask a m = fun_ext (λ k. bit_out a (m / 2 * 2) k ∙ ap (λ b. bit a k && not b) (bit_even m k))

-- no set has a line past the last
pub past_last : (lines : Lines) (k : ℕ) → 11 ≤ k → lines_of lines k ≡ false
unfolding lines_of
past_last lines k h = bit_high lines.bits 11 k lines.ok h
