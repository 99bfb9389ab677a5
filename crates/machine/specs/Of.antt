-- The meaning of a machine, by those of its board and its panel.
use Rattle.board.specs.declared.Board.{Ghosts as BoardGhosts}
use Rattle.panel.specs.declared.Panel.{Ghosts as PanelGhosts}
use Rattle.requests.specs.Of.{requests_of}
use Rattle.machine.specs.declared.parts.Machine.{Machine}
use Rattle.machine.specs.Model.{Model}

abbrev pub model_of : {B P : Type 0} (board : BoardGhosts B) (panel : PanelGhosts P) → Machine B P → Model panel.Standing
model_of board panel m = record { core = m.core; cells = board.cells m.board; standing = panel.standing m.panel; requests = requests_of m.requests }
