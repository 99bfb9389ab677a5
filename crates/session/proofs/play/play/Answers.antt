use Rattle.std.proofs.Common.{rules}
use Rattle.session.proofs.Putting.{puts_none}
use Rattle.session.proofs.play.play.Goals as goal

pub returns-then-listing-lt-ROOM-clause-listing : goal.returns-then-listing-lt-ROOM-clause-listing
returns-then-listing-lt-ROOM-clause-listing c = search (rules, puts_none)

pub returns-then-session-gt-LONGEST-clause-listing : goal.returns-then-session-gt-LONGEST-clause-listing
returns-then-session-gt-LONGEST-clause-listing c = search (rules, puts_none)
