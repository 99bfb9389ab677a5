-- What is written below the stack pointer is read back from there. Assumes nothing.
use Rattle.std.proofs.Common.{◌≡◌, ℕ, ◌<◌, false, arith}
use Rattle.std.proofs.lemmas.Bool.Decides.{nat_tests}
use Rattle.board.specs.Cells.{Cells, written}
use Rattle.machine.specs.Words.{past, back, word_at, pushed}
use Rattle.machine.specs.Control.{status_pushed}

-- a word pushed below a stack pointer stands at the new one
pub pushed_word : (cells : Cells) (sp w : ℕ) → w < 65536 → cells.fixed (back sp 1) ≡ false → cells.fixed (back sp 2) ≡ false
    → word_at (pushed sp w cells) (back sp 2) ≡ w
unfolding written
pushed_word cells sp w fits first second = grind (arith, nat_tests)

-- PSW and PC pushed below a stack pointer: PC stands at the new one, and PSW behind it
pub status_address : (cells : Cells) (sp status pc : ℕ) → pc < 65536 → cells.fixed (back sp 2) ≡ false → cells.fixed (back sp 3) ≡ false
    → word_at (status_pushed sp status pc cells) (back sp 3) ≡ pc
unfolding written
status_address cells sp status pc fits second third = grind (arith, nat_tests)

pub status_byte : (cells : Cells) (sp status pc : ℕ) → cells.fixed (back sp 1) ≡ false
    → (status_pushed sp status pc cells).at (past (back sp 3) 2) ≡ status
unfolding written
status_byte cells sp status pc first = grind (arith, nat_tests)
