use Rattle.std.proofs.Common.{◌/◌, sym, arith}
use Rattle.std.proofs.lemmas.Fmt.{decimal_digit, decimal_step, length-decimal-le}
use Rattle.session.proofs.Putting.{◌▸◌, reworded}
use Rattle.session.proofs.listing.Listing.+decimal.Goals as goal

pub returns-then-number-lt10 : goal.returns-then-number-lt10
returns-then-number-lt10 t c = record {
  text = reworded (sym (decimal_digit c.args.number (omega arith))) c.text.ensures;
  digits = length-decimal-le 20 c.args.number (omega arith) (omega arith) (omega arith);
}

pub text-requires-2 : goal.text-requires-2
text-requires-2 t c =
    let l = length-decimal-le 19 (c.args.number / 10) (omega arith) (omega arith) (omega arith) in
    omega (arith, c.decimal.ensures.text.puts.moves, c.decimal.ensures.text.puts.size)

pub returns : goal.returns
returns t c = record {
  text = reworded (sym (decimal_step c.args.number (omega arith) (omega arith))) (c.decimal.ensures.text ▸ c.text-2.ensures);
  digits = length-decimal-le 20 c.args.number (omega arith) (omega arith) (omega arith);
}
