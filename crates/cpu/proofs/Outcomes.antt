-- From a step before its states pass to the whole step, by its answer.
use Rattle.std.proofs.Common.{◌≡◌, ℕ, Ok, Err, refl, ◌∙◌, subst}
use Rattle.board.specs.declared.Board.{Ghosts as BoardGhosts}
use Rattle.panel.specs.declared.Panel.{Ghosts as PanelGhosts}
use Rattle.machine.specs.declared.parts.Machine.{Machine}
use Rattle.machine.specs.Model.{Model}
use Rattle.machine.specs.Of.{model_of}
use Rattle.machine.specs.Effects.{Runs}
use Rattle.machine.proofs.Effects.{then}
use Rattle.cpu.specs.declared.codes.UndefinedCode.{UndefinedCode}
use Rattle.cpu.specs.Step.{Outcome, counts, stops, outcome, answer, acted, elapsed, stepped, after, ComesTo}

module _ {S : Type 0} where
  -- what holds of every outcome that stops holds of one whose answer is an undefined code
  pub stopped : (Holds : Outcome S → Type 0) → ((code : UndefinedCode) → Holds (stops code))
      → (o : Outcome S) (code : UndefinedCode) → Err code ≡ answer o → Holds o
  stopped Holds at (counts n made) code e = cc
  stopped Holds at (stops c) code e = at c

  -- what holds of every outcome that counts n states holds of one whose answer is n
  pub counted : (n : ℕ) (Holds : Outcome S → Type 0) → ((made : Model S) → Holds (counts n made))
      → (o : Outcome S) → Ok n ≡ answer o → Holds o
  counted n Holds at (counts k made) e = let same : n ≡ k = cc in subst (λ j. Holds (counts j made)) same (at made)
  counted n Holds at (stops c) e = cc

module _ {B P : Type 0} (board : BoardGhosts B) (panel : PanelGhosts P) where
  pub if_stopped : {old new : Machine B P} {code : UndefinedCode}
      → ComesTo board panel (outcome panel.rules) (Err code) old new → Runs board panel (stepped panel.rules) old new
  if_stopped {old} {new} {code} comes =
      let m = model_of board panel old in
      record {
        after = comes.becomes.after ∙ stopped (λ o. acted o m ≡ after panel.rules o m) (λ c. refl) (outcome panel.rules m) code comes.answer;
        keeps = comes.becomes.keeps;
      }

  pub if_counted : {old new later : Machine B P} {n : ℕ}
      → ComesTo board panel (outcome panel.rules) (Ok n) old new → Runs board panel (elapsed panel.rules n) new later
      → Runs board panel (stepped panel.rules) old later
  if_counted {old} {new} {later} {n} comes passing =
      let m = model_of board panel old in
      let done = then board panel comes.becomes passing in
      record {
        after = done.after ∙ counted n (λ o. elapsed panel.rules n (acted o m) ≡ after panel.rules o m) (λ made. refl) (outcome panel.rules m) comes.answer;
        keeps = done.keeps;
      }
