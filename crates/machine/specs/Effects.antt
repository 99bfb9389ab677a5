-- What a function makes of a board, of registers with a board, or of a machine. What the board holds besides its cells stays as it was.
use Rattle.std.specs.Prelude.{◌≡◌}
use Rattle.registers.specs.declared.file.Registers.{Registers}
use Rattle.board.specs.Cells.{Cells}
use Rattle.board.specs.declared.Board.{Ghosts}
use Rattle.panel.specs.declared.Panel.{Ghosts as PanelGhosts}
use Rattle.machine.specs.declared.parts.Machine.{Machine}
use Rattle.machine.specs.Model.{Model, Reach, reach}
use Rattle.machine.specs.Of.{model_of}

-- a change is made of a board's cells
pub record Writes {B : Type 0} (board : Ghosts B) (change : Cells → Cells) (old new : B) : Type 0 where
  pub after : board.cells new ≡ change (board.cells old)
  pub keeps : board.rest new ≡ board.rest old

-- an operation is done on registers and a board's cells
pub record Acts {B : Type 0} (board : Ghosts B) (operation : Reach → Reach) (old new : Registers × B) : Type 0 where
  pub after : reach new.0 (board.cells new.1) ≡ operation (reach old.0 (board.cells old.1))
  pub keeps : board.rest new.1 ≡ board.rest old.1

-- a change is made of what a machine means
pub record Runs {B P : Type 0} (board : Ghosts B) (panel : PanelGhosts P) (change : Model panel.Standing → Model panel.Standing) (old new : Machine B P) : Type 0 where
  pub after : model_of board panel new ≡ change (model_of board panel old)
  pub keeps : board.rest new.board ≡ board.rest old.board

-- what a law says of a machine before and after, by what it means
abbrev pub Between : {B P : Type 0} (board : Ghosts B) (panel : PanelGhosts P) → (Model panel.Standing → Model panel.Standing → Type 0) → Machine B P → Machine B P → Type 0
Between board panel law old new = law (model_of board panel old) (model_of board panel new)
