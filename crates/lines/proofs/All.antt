-- The place of each line among all of them. Assumes nothing.
use Rattle.std.proofs.Common.{◌≡◌, ℕ, ◌<◌, get_or, refl, below_none, below_more}
use Rattle.lines.specs.declared.line.TheConstants.Line.{ALL}
use Rattle.lines.specs.declared.line.Line.{Line}
use Rattle.lines.specs.Numbers.{number_of}

module _ (d : Line) where
  pub numbered : (k : ℕ) → k < 11 → number_of (get_or ALL k d) ≡ k
  numbered =
      let P : ℕ → Type 0 = λ k. number_of (get_or ALL k d) ≡ k in
      let more = below_more P in
      more 10 (more 9 (more 8 (more 7 (more 6 (more 5 (more 4 (more 3 (more 2 (more 1 (more 0 (below_none P) refl) refl) refl) refl) refl) refl) refl) refl) refl) refl) refl
