use Rattle.std.proofs.Common.{◌++◌, codes, ap}
use Rattle.session.specs.Text.{hex2}
use Rattle.session.proofs.Putting.{◌▸◌, reworded}
use Rattle.session.proofs.listing.Listing.pointers.Goals as goal

pub returns : goal.returns
returns c =
    let psw-field = reworded (ap (λ byte. codes " PSW " ++ hex2 byte) c.into.ensures.value) c.byte.ensures in
    c.word.ensures ▸ c.word-2.ensures ▸ c.word-3.ensures ▸ psw-field ▸ c.text.ensures
