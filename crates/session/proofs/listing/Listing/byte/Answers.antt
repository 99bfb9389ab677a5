use Rattle.std.proofs.Common.{[], ◌∷◌, ◌++◌}
use Rattle.session.proofs.Putting.{◌▸◌, reworded}
use Rattle.session.proofs.listing.Listing.byte.Goals as goal

pub returns : goal.returns
returns c = reworded (λ i. c.args.label.now ++ c.digit.ensures i ∷ c.digit-2.ensures i ∷ []) (c.text.ensures ▸ c.text-2.ensures)
