-- The lines of a set of marks and a list of tallies.
use Rattle.std.specs.Prelude.{ℕ, List, slice_index_or}
use Rattle.lines.specs.declared.set.Lines.{Lines}
use Rattle.lines.specs.Of.{lines_of}
use Rattle.requests.specs.declared.tally.Tally.{Tally}
use Rattle.requests.specs.Request.{Request, quiet, tally_of, request_of}

-- the line with a number, quiet past the last tally
abbrev pub request_at : Lines → List Tally → ℕ → Request
request_at marks tallies k = request_of (lines_of marks k) (slice_index_or tallies k (tally_of quiet))
