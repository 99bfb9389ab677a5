-- What n states make of the bench panel. Assumes nothing.
use Rattle.std.proofs.Common.{◌≡◌, ℕ, zero, suc, ◌+◌, ◌≤◌, min, ◌&&◌, ◌||◌, ltb, List, get_or, replicate, sym, refl, ap, ◌∙◌, inl, inr, arith}
use mathlib.Core.Path.{fun_ext}
use Rattle.std.proofs.lemmas.Bool.{cases_lt}
use Rattle.std.proofs.lemmas.Bool.Decides.{nat_tests}
use Rattle.panel.specs.declared.schedule.Due.{Due}
use Rattle.panel.specs.Rules.{passed, rose}
use Rattle.panel.specs.Schedule.{scheduled}
use Rattle.panel.specs.Bench.{Bench, bench_rules, last_number}
use Rattle.panel.specs.Places.{due_in}
use Rattle.panel.proofs.Records.{none_in, one_in}

pub zeroes : (n k : ℕ) → ◌≡◌ {A = ℕ} (get_or (replicate n 0) k 0) 0
zeroes zero k = refl
zeroes (suc n) zero = refl
zeroes (suc n) (suc k) = zeroes n k

module _ (bytes : ℕ → ℕ) (clock : ℕ) (ds : List Due) (ok : clock ≤ last_number) where
  abbrev at : ℕ → Bench
  at c = record { bytes = bytes; clock = c; due = scheduled ds }

  pub passed_by : (n : ℕ) → passed bench_rules (at clock) n ≡ at (min (clock + n) last_number)
  unfolding passed
  passed_by zero = ap at (omega arith)
  passed_by (suc n) = ap bench_rules.state (passed_by n) ∙ ap at (omega arith)

  pub rose_by : (n : ℕ) → rose bench_rules (at clock) n ≡ due_in ds clock (min (clock + n) last_number)
  unfolding rose
  rose_by zero = fun_ext (λ line.
      let same : clock ≡ min (clock + 0) last_number = omega arith in
      sym (none_in ds clock line) ∙ ap (λ u. due_in ds clock u line) same)
  rose_by (suc n) = fun_ext (λ line.
      let u : ℕ = min (clock + n) last_number in
      (λ i. rose_by n i line || bench_rules.rising (passed_by n i) line)
      ∙ elim (cases_lt u last_number) [
        | inl h ↦ let next : u + 1 ≡ min (clock + suc n) last_number = omega arith in
            let one = one_in ds clock u line (omega arith) in
            let more : (due_in ds clock u line || ((ltb u last_number && ltb line 11) && scheduled ds (u + 1) line)) ≡ due_in ds clock (u + 1) line = grind (arith, nat_tests) in
            more ∙ ap (λ v. due_in ds clock v line) next
        | inr h ↦ let stays : u ≡ min (clock + suc n) last_number = omega arith in
            let same : (due_in ds clock u line || ((ltb u last_number && ltb line 11) && scheduled ds (u + 1) line)) ≡ due_in ds clock u line = grind (arith, nat_tests) in
            same ∙ ap (λ v. due_in ds clock v line) stays
      ])
