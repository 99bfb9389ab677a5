-- The flat board: a memory from address 0 up, fixed below a number F.
use Rattle.std.specs.Prelude.{ℕ, min, true, cond, List, ◌++◌, map, length, drop, nat_lt, slice_index}
use Rattle.std.specs.List.{range_with_len}
use Rattle.board.specs.Cells.{Cells}

-- how many addresses a memory reaches
abbrev pub reach : List ℕ → ℕ
reach memory = min (length memory) 65536

-- address a holds byte a of the memory and is fixed below F; addresses from the memory's length up hold 255 and are fixed
abbrev pub flat_cells : List ℕ → ℕ → Cells
flat_cells memory below = record {
  at = λ a. cond (nat_lt a (reach memory)) (slice_index memory a) 255;
  fixed = λ a. cond (nat_lt a (reach memory)) (nat_lt a below) true;
}

-- what no write to a flat board changes: the memory's length, F, and the unused bytes past the last address
pub record FlatRest : Type 0 where
  pub size : ℕ
  pub below : ℕ
  pub unused : List ℕ

abbrev pub flat_rest : List ℕ → ℕ → FlatRest
flat_rest memory below = record { size = length memory; below = below; unused = drop 65536 memory }

-- the memory that a flat board gives back: its cells as far as the memory reaches, then the unused bytes
abbrev pub flat_memory : Cells → FlatRest → List ℕ
flat_memory cells rest = map cells.at (range_with_len 0 (min rest.size 65536)) ++ rest.unused
