use Rattle.std.proofs.Common.{refl}
use Rattle.session.proofs.Putting.{copied}
use Rattle.session.proofs.listing.Listing.text.Goals as goal

pub returns : goal.returns
returns c = record { same = refl; puts = copied c.args.self.now.buffer.now c.args.self.now.at c.args.text.now c.copy_from_slice.new.self c.requires c.copy_from_slice.ensures.after }
