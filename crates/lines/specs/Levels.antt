-- The levels of the lines, their vectors, and what an entry at a level clears.
use Rattle.std.specs.Prelude.{ℕ, Bool, cond, Some, None, Option, ◌==◌}
use Rattle.lines.specs.declared.line.Line.{Line}
use Rattle.lines.specs.declared.line.Line.TheVariants.{Nmi as NmiLine, Ft0, Ft1, F1, F2, Fe0, Fe1, Fein, Fad, Fsr, Fst}
use Rattle.lines.specs.declared.level.Level.{Level}
use Rattle.lines.specs.declared.level.Level.TheVariants.{Nmi, Timer, External, Counter, Analog, Serial}
use Rattle.lines.specs.Numbers.{number_of}
use Rattle.lines.specs.Sets.{bit, level_of}

-- the level with a number: 0 for NMI, then 1 to 5 for the pairs
abbrev pub level_at : ℕ → Level
level_at n = cond (n == 0) Nmi (cond (n == 1) Timer (cond (n == 2) External (cond (n == 3) Counter (cond (n == 4) Analog Serial))))

-- and the number of a level
abbrev pub level_number : Level → ℕ
level_number Nmi = 0
level_number Timer = 1
level_number External = 2
level_number Counter = 3
level_number Analog = 4
level_number Serial = 5

abbrev pub named_level : Option ℕ → Option Level
named_level None = None
named_level (Some n) = Some (level_at n)

-- the highest level with a line, by its name
abbrev pub highest_of : (ℕ → Bool) → Option Level
highest_of a = named_level (level_of a)

-- the address that an entry goes to
abbrev pub vector_of : Level → ℕ
vector_of Nmi = 4
vector_of Timer = 8
vector_of External = 16
vector_of Counter = 24
vector_of Analog = 32
vector_of Serial = 40

-- the second line of a pair where the first is masked, and the first where only the second is
abbrev pub one_of : Line → Line → ℕ → Option Line
one_of first second masks = cond (bit masks (number_of first)) (Some second) (cond (bit masks (number_of second)) (Some first) None)

-- the line whose mark an entry clears: of a pair that is unmasked both marks stand
abbrev pub entered_by : Level → ℕ → Option Line
entered_by Nmi masks = Some NmiLine
entered_by Timer masks = one_of Ft0 Ft1 masks
entered_by External masks = one_of F1 F2 masks
entered_by Counter masks = one_of Fe0 Fe1 masks
entered_by Analog masks = one_of Fein Fad masks
entered_by Serial masks = one_of Fsr Fst masks
