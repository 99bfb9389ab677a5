-- The lines that a value of `Requests` has.
use Rattle.std.specs.Prelude.{ℕ}
use Rattle.requests.specs.declared.requests.Requests.{Requests}
use Rattle.requests.specs.At.{request_at}
use Rattle.requests.specs.Request.{Request}

-- each line has the mark and the tally of its number
unfoldable pub requests_of : Requests → ℕ → Request
requests_of r = request_at r.marks r.tallies
