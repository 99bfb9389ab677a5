-- The mask-ROM board: 4,096 bytes of ROM at most from address 0, 256 bytes of RAM at the top.
use Rattle.std.specs.Prelude.{ℕ, ◌-◌, min, true, false, cond, List, length, nat_lt, slice_index}
use Rattle.board.specs.Cells.{Cells}

-- how many addresses a ROM image fills
abbrev pub filled : List ℕ → ℕ
filled rom = min (length rom) 4096

-- by the part an address lies in: the image, the gap above it, the RAM at FF00H to FFFFH, nothing
abbrev pub by_part : {X : Type 0} → List ℕ → ℕ → X → X → X → X → X
by_part rom a image gap ram none = cond (nat_lt a (filled rom)) image (cond (nat_lt a 65280) gap (cond (nat_lt a 65536) ram none))

-- the image and the RAM hold their bytes, all else 255; only the RAM is not fixed
abbrev pub mask_rom_cells : List ℕ → List ℕ → Cells
mask_rom_cells rom ram = record {
  at = λ a. by_part rom a (slice_index rom a) 255 (slice_index ram (a - 65280)) 255;
  fixed = λ a. by_part rom a true true false true;
}
