-- The lines by their numbers, and what is done to one of them, to some and to all.
use Rattle.std.specs.Prelude.{ℕ, Bool, ◌==◌}
use Rattle.requests.specs.Request.{Request, when, signalled, dropping}

-- the lines that wait
abbrev pub marks_of : (ℕ → Request) → ℕ → Bool
marks_of requests k = (requests k).waiting

-- a change of the line with a number
abbrev pub at_line : ℕ → (Request → Request) → (ℕ → Request) → ℕ → Request
at_line n f requests k = when (k == n) f (requests k)

-- a signal on each line of a set
abbrev pub signalled_all : (ℕ → Bool) → (ℕ → Request) → ℕ → Request
signalled_all rising requests k = when (rising k) signalled (requests k)

-- every mark cleared by a reset
abbrev pub dropped_all : (ℕ → Request) → ℕ → Request
dropped_all requests k = dropping (requests k)
