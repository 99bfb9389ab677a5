-- The pick, and the mode that it leaves a core in.
use Rattle.std.specs.Prelude.{ℕ, Bool, true, cond, not, ◌&&◌, Some, None, Option}
use Rattle.registers.specs.declared.bench.Core.{Core}
use Rattle.lines.specs.declared.level.Level.{Level}
use Rattle.lines.specs.declared.level.Level.TheVariants.{Nmi, Timer, External, Counter, Analog, Serial}
use Rattle.lines.specs.Sets.{unmasked_by}
use Rattle.lines.specs.Levels.{highest_of}
use Rattle.requests.specs.Request.{Request}
use Rattle.requests.specs.All.{marks_of}
use Rattle.machine.specs.Words.{word}
use Rattle.cpu.specs.declared.pick.Mode.{Mode}
use Rattle.cpu.specs.declared.pick.Mode.TheVariants.{Running, Halted, Skipping}

-- MKH and MKL as one number
abbrev pub masks_of : Core → ℕ
masks_of core = word core.mkh core.mkl

-- the pick: the highest level with a waiting line that is not masked, or none
abbrev pub picked : Core → (ℕ → Request) → Option Level
picked core requests = highest_of (unmasked_by (masks_of core) (marks_of requests))

-- what a core goes on with that is not halted, or no longer
abbrev pub awake : Core → Mode
awake core = cond core.registers.flags.skip Skipping Running

-- a pick ends a halt
abbrev pub mode_of : Option Level → Core → Mode
mode_of None core = cond core.halted Halted (awake core)
mode_of (Some level) core = awake core

-- NMI is entered always; another level if interrupts are enabled and the last step executed no EI
abbrev pub enterable : Core → Bool
enterable core = core.interrupts && not core.after_ei

abbrev pub may_enter : Level → Core → Bool
may_enter Nmi core = true
may_enter Timer core = enterable core
may_enter External core = enterable core
may_enter Counter core = enterable core
may_enter Analog core = enterable core
may_enter Serial core = enterable core
