-- A schedule of records, each a state number and a line.
use Rattle.std.specs.Prelude.{ℕ, Bool, false, ◌&&◌, ◌||◌, List, [], ◌∷◌, ◌==◌}
use Rattle.panel.specs.declared.schedule.Due.{Due}

-- whether a record has this number and this line
abbrev pub scheduled : List Due → ℕ → ℕ → Bool
scheduled [] number line = false
scheduled (d ∷ ds) number line = (d.at == number && d.line == line) || scheduled ds number line
