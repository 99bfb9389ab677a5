-- What every board means: 65,536 one-byte cells, and for each address whether it is fixed.
use Rattle.std.specs.Prelude.{◌≡◌, ℕ, ◌≤◌, Bool, true, cond, ◌==◌}

-- the byte at each address, and whether writing leaves that address alone
pub record Cells : Type 0 where
  pub at : ℕ → ℕ
  pub fixed : ℕ → Bool

-- a byte written to an address: its cell takes the byte unless the address is fixed, and nothing else changes
unfoldable pub written : Cells → ℕ → ℕ → Cells
written cells address byte = record {
  at = λ k. cond (cells.fixed address) (cells.at k) (cond (k == address) byte (cells.at k));
  fixed = cells.fixed;
}

-- there is nothing past the last address: every make shows the same fixed 255 there,
-- so that equal cells mean boards that agree at the 65,536 addresses, and no more
abbrev pub Bounded : Cells → Type 0
Bounded cells = (k : ℕ) → 65536 ≤ k → (cells.at k ≡ 255) × (cells.fixed k ≡ true)
