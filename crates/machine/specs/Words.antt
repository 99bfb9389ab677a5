-- Addresses, which are added modulo 65,536, and words of two bytes.
use Rattle.std.specs.Prelude.{ℕ, ◌+◌, ◌-◌, ◌*◌, ◌/◌, ◌%◌, ℤ}
use Rattle.std.proofs.Common.{of_z}
use Rattle.std.specs.Int.{w16}
use Rattle.board.specs.Cells.{Cells, written}

-- the address n further on
abbrev pub past : ℕ → ℕ → ℕ
past address n = (address + n) % 65536

-- the address n further back
abbrev pub back : ℕ → ℕ → ℕ
back address n = (address + (65536 - n)) % 65536

-- the address at a signed offset, whose two's complement of 16 bits is added
abbrev pub jumped : ℕ → ℤ → ℕ
jumped address offset = (address + of_z w16 offset) % 65536

-- a word of its high and its low byte, and back
abbrev pub word : ℕ → ℕ → ℕ
word high low = high * 256 + low

abbrev pub high : ℕ → ℕ
high w = w / 256 % 256

abbrev pub low : ℕ → ℕ
low w = w % 256

-- the word in memory at an address, its low byte first
abbrev pub word_at : Cells → ℕ → ℕ
word_at cells address = word (cells.at (past address 1)) (cells.at address)

-- a word stored at an address, its low byte first
abbrev pub word_stored : ℕ → ℕ → Cells → Cells
word_stored address w cells = written (written cells address (low w)) (past address 1) (high w)

-- a word pushed below the stack pointer, its high byte first
abbrev pub pushed : ℕ → ℕ → Cells → Cells
pushed sp w cells = written (written cells (back sp 1) (high w)) (back sp 2) (low w)
