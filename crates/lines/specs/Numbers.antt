-- The lines and their numbers.
use Rattle.std.specs.Prelude.{◌≡◌, ℕ, ◌<◌, ◌≤◌, cond, Some, None, Option, Result, MatchResult, List, ◌++◌, decimal, codes, ◌==◌}
use Rattle.lines.specs.declared.line.Line.{Line}
use Rattle.lines.specs.declared.line.NoSuchLine.{NoSuchLine}
use Rattle.lines.specs.declared.line.Line.TheVariants.{Nmi, Ft0, Ft1, F1, F2, Fe0, Fe1, Fein, Fad, Fsr, Fst}

-- from NMI, which is 0, to FST, which is 10
abbrev pub number_of : Line → ℕ
number_of Nmi = 0
number_of Ft0 = 1
number_of Ft1 = 2
number_of F1 = 3
number_of F2 = 4
number_of Fe0 = 5
number_of Fe1 = 6
number_of Fein = 7
number_of Fad = 8
number_of Fsr = 9
number_of Fst = 10

-- the line that has a number, if one has
abbrev pub line_at : ℕ → Option Line
line_at n =
    cond (n == 0) (Some Nmi) (cond (n == 1) (Some Ft0) (cond (n == 2) (Some Ft1) (cond (n == 3) (Some F1)
    (cond (n == 4) (Some F2) (cond (n == 5) (Some Fe0) (cond (n == 6) (Some Fe1) (cond (n == 7) (Some Fein)
    (cond (n == 8) (Some Fad) (cond (n == 9) (Some Fsr) (cond (n == 10) (Some Fst) None))))))))))

-- the line that has this number, or an error with a number that no line has
abbrev pub IsLine : ℕ → Result Line NoSuchLine → Type 0
IsLine n r = MatchResult r (λ line. (line_at n ≡ Some line) × (number_of line ≡ n) × (n < 11)) (λ e. (line_at n ≡ None) × (e.0 ≡ n) × (11 ≤ n))

-- what is said of a number that no line has
abbrev pub refusal : ℕ → List ℕ
refusal n = codes "no line has number " ++ decimal n
