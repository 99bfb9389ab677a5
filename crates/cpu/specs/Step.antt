-- One step: the first of entry, idle, skip and execution that fits; then its states pass.
use Rattle.std.specs.Prelude.{◌≡◌, ℕ, ◌≤◌, false, cond, Some, None, Ok, Err, Option, Result}
use Rattle.registers.specs.declared.bench.Core.{Core}
use Rattle.registers.specs.Psw.{psw}
use Rattle.lines.specs.declared.level.Level.{Level}
use Rattle.lines.specs.declared.line.Line.{Line}
use Rattle.lines.specs.Numbers.{number_of}
use Rattle.lines.specs.Levels.{vector_of, entered_by}
use Rattle.requests.specs.Request.{Request, entering}
use Rattle.requests.specs.All.{at_line, signalled_all}
use Rattle.board.specs.declared.Board.{Ghosts as BoardGhosts}
use Rattle.panel.specs.declared.Panel.{Ghosts as PanelGhosts}
use Rattle.panel.specs.Rules.{Rules, states_of, passed, rose}
use Rattle.isa.specs.Costs.{cost_of}
use Rattle.isa.specs.Decoding.{Decoded}
use Rattle.machine.specs.Words.{past, back}
use Rattle.machine.specs.Registers.{with_pc, with_sp, with_flags, with_skip, plain}
use Rattle.machine.specs.declared.parts.Machine.{Machine}
use Rattle.machine.specs.Model.{Model, on_core}
use Rattle.machine.specs.Of.{model_of}
use Rattle.machine.specs.Effects.{Runs}
use Rattle.machine.specs.Control.{status_pushed}
use Rattle.machine.specs.Instructions.{executed}
use Rattle.cpu.specs.declared.codes.UndefinedCode.{UndefinedCode}
use Rattle.cpu.specs.declared.pick.Mode.{Mode}
use Rattle.cpu.specs.declared.pick.Mode.TheVariants.{Running, Halted, Skipping}
use Rattle.cpu.specs.Codes.{code_here, undefined_at}
use Rattle.cpu.specs.Picking.{masks_of, picked, mode_of, may_enter}

-- what there is to do
pub data Choice : Type 0 where
  entry : Level → Choice
  idle : Choice
  skip : Choice
  run : Choice

-- without an entry, by the mode
abbrev pub going_on : Mode → Choice
going_on Running = run
going_on Halted = idle
going_on Skipping = skip

-- an entry comes first
abbrev pub choice : Option Level → Core → Choice
choice None core = going_on (mode_of None core)
choice (Some level) core = cond (may_enter level core) (entry level) (going_on (mode_of (Some level) core))

-- what a step makes: it counts states, or stops at an undefined code
pub data Outcome (S : Type 0) : Type 0 where
  counts : ℕ → Model S → Outcome S
  stops : UndefinedCode → Outcome S

-- the core as an interrupt's routine begins
abbrev pub vectored : Level → Core → Core
vectored level core = record {
  registers = with_pc (vector_of level) (with_sp (back core.registers.sp 3) (with_flags (plain core.registers.flags) core.registers));
  mkl = core.mkl;
  mkh = core.mkh;
  interrupts = false;
  halted = false;
  after_ei = false;
}

-- the entered line's mark is cleared; where both lines of a pair are unmasked, both marks stand
abbrev pub entered_at : Option Line → (ℕ → Request) → ℕ → Request
entered_at None requests = requests
entered_at (Some line) requests = at_line (number_of line) entering requests

abbrev pub cleared_by : Level → ℕ → (ℕ → Request) → ℕ → Request
cleared_by level masks requests = entered_at (entered_by level masks) requests

-- a skip's core: PC is past the code and SK is clear
abbrev pub passed_over : ℕ → Core → Core
passed_over n core = record {
  registers = with_pc (past core.registers.pc n) (with_skip false core.registers);
  mkl = core.mkl;
  mkh = core.mkh;
  interrupts = core.interrupts;
  halted = false;
  after_ei = false;
}

abbrev pub idled : Core → Core
idled core = record { registers = core.registers; mkl = core.mkl; mkh = core.mkh; interrupts = core.interrupts; halted = core.halted; after_ei = false }

module _ {S : Type 0} where
  -- PSW and PC go to the stack, and PC becomes the level's vector
  abbrev pub entered : Level → Model S → Model S
  entered level m = record {
    core = vectored level m.core;
    cells = status_pushed m.core.registers.sp (psw m.core.registers.flags) m.core.registers.pc m.cells;
    standing = m.standing;
    requests = cleared_by level (masks_of m.core) m.requests;
  }

  -- a defined code is passed over
  abbrev pub skipping : Decoded → Model S → Outcome S
  skipping (Ok i) m = counts (cost_of i).skipped (on_core (passed_over (cost_of i).bytes) m)
  skipping (Err decided) m = stops (undefined_at m.cells m.core.registers.pc decided)

module _ {S : Type 0} (rules : Rules S) where
  -- a defined code is executed
  abbrev pub executing : Decoded → Model S → Outcome S
  executing (Ok i) m = counts (cost_of i).states (executed rules i m)
  executing (Err decided) m = stops (undefined_at m.cells m.core.registers.pc decided)

  abbrev pub done : Choice → Model S → Outcome S
  done (entry level) m = counts 16 (entered level m)
  done idle m = counts 4 (on_core idled m)
  done skip m = skipping (code_here m) m
  done run m = executing (code_here m) m

  abbrev pub outcome : Model S → Outcome S
  outcome m = done (choice (picked m.core m.requests) m.core) m

  -- states pass on the panel, and each line that rises in them is signalled; no step counts more than 59
  abbrev pub elapsed : ℕ → Model S → Model S
  elapsed n m = record {
    core = m.core;
    cells = m.cells;
    standing = passed rules m.standing (states_of n);
    requests = signalled_all (rose rules m.standing (states_of n)) m.requests;
  }

  -- after a step; an undefined code changes nothing
  abbrev pub after : Outcome S → Model S → Model S
  after (counts n made) m = elapsed n made
  after (stops code) m = m

  -- a whole step
  abbrev pub stepped : Model S → Model S
  stepped m = after (outcome m) m

module _ {S : Type 0} where
  -- the same before its states pass
  abbrev pub acted : Outcome S → Model S → Model S
  acted (counts n made) m = made
  acted (stops code) m = m

  -- what a step answers
  abbrev pub answer : Outcome S → Result ℕ UndefinedCode
  answer (counts n made) = Ok n
  answer (stops code) = Err code

-- every step counts 4 to 59 states
abbrev pub Counted : Result ℕ UndefinedCode → Type 0
Counted (Ok n) = (4 ≤ n) × (n ≤ 59)
Counted (Err code) = Unit {0}

-- a machine comes to an outcome, before its states pass, and answers what the outcome says
pub record ComesTo {B P : Type 0} (board : BoardGhosts B) (panel : PanelGhosts P) (makes : Model panel.Standing → Outcome panel.Standing) (result : Result ℕ UndefinedCode) (old new : Machine B P) : Type 0 where
  pub becomes : Runs board panel (λ m. acted (makes m) m) old new
  pub answer : result ≡ answer (makes (model_of board panel old))
  pub counted : Counted result
