use Rattle.std.proofs.Common.{◌≡◌, ◌/◌, ◌%◌, ◌++◌, get_or, ap, ◌∙◌, arith}
use Rattle.std.proofs.lemmas.List.{append_assoc}
use Rattle.session.specs.Text.{hex2}
use Rattle.session.proofs.Putting.{◌▸◌, reworded}
use Rattle.session.proofs.listing.Listing.word.Goals as goal

pub returns : goal.returns
returns c =
    let label = c.args.label.now in
    let halves = ap (λ bytes. label ++ hex2 (get_or bytes 0 0) ++ hex2 (get_or bytes 1 0)) c.to_be_bytes.ensures in
    let high : c.args.word / 256 % 256 ≡ c.args.word / 256 = omega arith in
    reworded (halves ∙ append_assoc label _ _ ∙ ap (λ n. label ++ (hex2 n ++ hex2 (c.args.word % 256))) high) (c.byte.ensures ▸ c.byte-2.ensures)
