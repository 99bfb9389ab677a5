use Rattle.std.proofs.Common.{ap, ◌∙◌}
use Rattle.lines.specs.Sets.{bit}
use Rattle.std.proofs.lemmas.Bool.{eqb-true, eq-eqb}
use Rattle.lines.proofs.Digits.{bit_zero, no_bits}
use Rattle.lines.specs.Of.{lines_of}
use Rattle.lines.proofs.set.Lines.is_empty.Goals as goal

pub returns : goal.returns
unfolding lines_of
returns c =
    let bits = c.args.self.bits in (
      λ e. ap bit (eqb-true bits 0 e) ∙ (λ i k. bit_zero k i),
      λ none. eq-eqb bits 0 (no_bits bits (λ k. ap (λ f. f k) none)),
    )
