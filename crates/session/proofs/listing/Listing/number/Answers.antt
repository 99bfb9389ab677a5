use Rattle.session.proofs.Putting.{◌▸◌}
use Rattle.session.proofs.listing.Listing.number.Goals as goal

pub returns-clause-text : goal.returns-clause-text
returns-clause-text c = c.text.ensures ▸ c.decimal.ensures.text
