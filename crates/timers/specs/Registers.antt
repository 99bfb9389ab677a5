-- The timers' registers and their codes.
use Rattle.std.specs.Prelude.{ℕ, cond, Some, None, Option, ◌==◌}
use Rattle.timers.specs.declared.register.Register.{Register}
use Rattle.timers.specs.declared.register.Register.TheVariants.{Tmm, Tm0, Tm1}

-- the code of a register
abbrev pub code_at : Register → ℕ
code_at Tmm = 13
code_at Tm0 = 26
code_at Tm1 = 27

-- the register that has a code, if one of the timers' has
abbrev pub register_at : ℕ → Option Register
register_at code = cond (code == 13) (Some Tmm) (cond (code == 26) (Some Tm0) (cond (code == 27) (Some Tm1) None))
