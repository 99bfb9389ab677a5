use Rattle.std.proofs.Common.{◌++◌, codes, decimal, ap, ◌∙◌}
use Rattle.session.specs.declared.fault.Place.{Place}
use Rattle.session.proofs.Putting.{◌▸◌, reworded}
use Rattle.session.proofs.listing.Listing.fault.Goals as goal

pub returns : goal.returns
returns c =
    let place = c.place-number.ensures in
    let number = reworded (ap (λ n. codes "F " ++ decimal n) (c.from.ensures ∙ c.number.ensures)) c.number-2.ensures.text in
    let record-number = reworded (ap (λ (p : Place). codes " " ++ decimal p.number) place) c.number-3.ensures.text in
    let offset = reworded (ap (λ (p : Place). codes " " ++ decimal p.offset) place) c.number-4.ensures.text in
    number ▸ record-number ▸ offset ▸ c.text.ensures
