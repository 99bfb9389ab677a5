use Rattle.session.specs.Sheet.{meter_line}
use Rattle.session.proofs.Putting.{◌▸◌, reworded}
use Rattle.session.proofs.listing.Listing.sheet.Goals as goal

pub returns : goal.returns
returns c =
    let m = c.default.ensures in
    c.pointers.ensures ▸ c.bank.ensures ▸ reworded (λ i. meter_line (m.0 i) (m.1.0 i) (m.1.1.0 i) (m.1.1.1 i)) c.meter.ensures
