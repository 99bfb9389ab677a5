-- What a function that is passed in makes of a register with the flags, or of A with a cell.
use Rattle.std.specs.Prelude.{◌≡◌, ℕ}
use Rattle.std.specs.Borrow.{MutBor}
use Rattle.std.specs.Fn.{Once}
use Rattle.registers.specs.declared.flags.Flags.{Flags}
use Rattle.registers.specs.declared.bank.ByteRegister.{ByteRegister}
use Rattle.registers.specs.declared.file.Registers.{Registers}
use Rattle.board.specs.Cells.{written}
use Rattle.machine.specs.Model.{Reach, reach}
use Rattle.machine.specs.Operands.{word_in}
use Rattle.machine.specs.Registers.{with_a, with_byte, byte_in, with_flags}
use Rattle.machine.specs.declared.words.WordRegister.TheVariants.{Hl}

-- the calls of a function that takes a byte and a `&mut`, and gives a byte
abbrev pub Calls : Type 0 → Type 0 → Type 1
Calls F T = Once F (ℕ × (MutBor T × Unit {0})) (ℕ × (MutBor T × Unit {0}))

-- at a byte x and a reference to t the call may give y and leave t'
pub record Gives {F T : Type 0} (calls : Calls F T) (f : F) (x : ℕ) (t : T) (y : ℕ) (t' : T) : Type 0 where
  pub shown : MutBor T
  pub shows : shown.now ≡ t
  pub left : MutBor T
  pub met : calls.post f (x, (shown, tt)) (y, (left, tt))
  pub leaves : left.now ≡ t'

-- a register takes the byte that a call gives of its own, and the flags are those that it leaves
abbrev pub RegisterChanged : {F : Type 0} → Calls F Flags → F → ByteRegister → Registers → Registers → Type 0
RegisterChanged calls f r s s' =
    (y : ℕ) × (flags : Flags) × Gives calls f (byte_in r s) s.flags y flags
    × (s' ≡ with_flags flags (with_byte r y s))

-- the cell at HL takes the byte that a call gives of its own, and A is what it leaves
abbrev pub CellTurned : {F : Type 0} → Calls F ℕ → F → Reach → Reach → Type 0
CellTurned calls f q q' =
    (y : ℕ) × (a : ℕ) × Gives calls f (q.cells.at (word_in Hl q.registers)) q.registers.main.a y a
    × (q' ≡ reach (with_a a q.registers) (written q.cells (word_in Hl q.registers) y))
