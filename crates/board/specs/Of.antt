-- The meaning of each make of board.
use Rattle.std.specs.Prelude.{ℕ, List, vec_items}
use Rattle.board.specs.declared.flat.FlatBoard.{FlatBoard}
use Rattle.board.specs.declared.mask_rom.MaskRomBoard.{MaskRomBoard}
use Rattle.board.specs.Cells.{Cells}
use Rattle.board.specs.Flat.{flat_cells, FlatRest, flat_rest}
use Rattle.board.specs.MaskRom.{mask_rom_cells}

-- a function beside the board and no model of it, since a model's value is data, and the cells are a function of the address
abbrev pub flat_of : FlatBoard → Cells
flat_of b = flat_cells (vec_items b.memory) b.fixed_below

abbrev pub flat_rest_of : FlatBoard → FlatRest
flat_rest_of b = flat_rest (vec_items b.memory) b.fixed_below

-- no model either, since its cells are a function of the address
abbrev pub mask_rom_of : MaskRomBoard → Cells
mask_rom_of b = mask_rom_cells (vec_items b.rom) b.ram

-- no write changes the ROM image
abbrev pub image_of : MaskRomBoard → List ℕ
image_of b = vec_items b.rom
