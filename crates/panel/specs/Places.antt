-- How the code keeps a schedule: its records in order of their numbers, and the place from which on they are still to come.
use Rattle.std.specs.Prelude.{ℕ, ◌<◌, ◌≤◌, Bool, false, ◌&&◌, ◌||◌, List, [], ◌∷◌, length, ◌==◌, nat_le, nat_lt, slice_index_or}
use Rattle.panel.specs.declared.schedule.Due.{Due}

-- the lines of records
abbrev pub lines_in : List Due → ℕ → Bool
lines_in [] line = false
lines_in (d ∷ ds) line = (d.line == line && nat_lt line 11) || lines_in ds line

-- the lines of the records after one number and up to another
abbrev pub due_in : List Due → ℕ → ℕ → ℕ → Bool
due_in [] after until line = false
due_in (d ∷ ds) after until line = ((nat_lt after d.at && nat_le d.at until) && (d.line == line && nat_lt line 11)) || due_in ds after until line

-- a record for the places past a schedule's end
abbrev pub no_record : Due
no_record = record { at = 0; line = 0 }

-- records with rising numbers
abbrev pub InOrder : List Due → Type 0
InOrder ds = (i j : ℕ) → i ≤ j → j < length ds → (slice_index_or ds i no_record).at ≤ (slice_index_or ds j no_record).at

-- the records before a place have numbers up to the clock
abbrev pub Gone : List Due → ℕ → ℕ → Type 0
Gone ds place clock = (place ≤ length ds) × ((k : ℕ) → k < place → (slice_index_or ds k no_record).at ≤ clock)

-- the records from a place on have later numbers
abbrev pub Coming : List Due → ℕ → ℕ → Type 0
Coming ds place clock = (k : ℕ) → place ≤ k → k < length ds → clock < (slice_index_or ds k no_record).at
