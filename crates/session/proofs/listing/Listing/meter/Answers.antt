use Rattle.session.proofs.Putting.{◌▸◌}
use Rattle.session.proofs.listing.Listing.meter.Goals as goal

pub returns : goal.returns
returns c = c.number.ensures.text ▸ c.number-2.ensures.text ▸ c.number-3.ensures.text ▸ c.number-4.ensures.text ▸ c.text.ensures
