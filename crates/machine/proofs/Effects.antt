-- Changes of a machine one after the other, and what a law says of it then.
use Rattle.std.proofs.Common.{sym, ap, ◌∙◌, subst}
use Rattle.board.specs.declared.Board.{Ghosts as BoardGhosts}
use Rattle.panel.specs.declared.Panel.{Ghosts as PanelGhosts}
use Rattle.machine.specs.declared.parts.Machine.{Machine}
use Rattle.machine.specs.Model.{Model}
use Rattle.machine.specs.Of.{model_of}
use Rattle.machine.specs.Effects.{Runs, Between}

module _ {B P : Type 0} (board : BoardGhosts B) (panel : PanelGhosts P) where
  -- one change and then another
  pub then : {first second : Model panel.Standing → Model panel.Standing} {old new later : Machine B P}
      → Runs board panel first old new → Runs board panel second new later → Runs board panel (λ m. second (first m)) old later
  then {first} {second} x y = record { after = y.after ∙ ap second x.after; keeps = y.keeps ∙ x.keeps }

  -- a law of what a change makes of a machine holds of the machine before and after
  pub between : {change : Model panel.Standing → Model panel.Standing} {old new : Machine B P}
      (law : Model panel.Standing → Model panel.Standing → Type 0)
      → Runs board panel change old new → law (model_of board panel old) (change (model_of board panel old)) → Between board panel law old new
  between {change} {old} law runs holds = subst (law (model_of board panel old)) (sym runs.after) holds
