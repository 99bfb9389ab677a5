use Rattle.session.proofs.Putting.{◌▸◌}
use Rattle.session.proofs.listing.Listing.bank.Goals as goal

pub returns : goal.returns
returns c = c.byte.ensures ▸ c.byte-2.ensures ▸ c.byte-3.ensures ▸ c.byte-4.ensures ▸ c.byte-5.ensures ▸ c.byte-6.ensures ▸ c.byte-7.ensures ▸ c.byte-8.ensures ▸ c.text.ensures
