use Rattle.std.proofs.Common.{◌≡◌, ◌+◌, ◌*◌, ap, ◌∙◌, rules}
use Rattle.registers.specs.Psw.{psw, flags_of}
use Rattle.registers.proofs.Inverse.{flags_again}
use Rattle.registers.proofs.flags.U8FromFlags.from.Goals as goal

pub returns : goal.returns
returns c =
    let value : 64 * c.from.result + 32 * c.from-2.result + 16 * c.from-3.result + 8 * c.from-4.result + 4 * c.from-5.result + c.from-6.result ≡ psw c.args.flags = search rules in
    record { value = value; inverse = ap flags_of value ∙ flags_again c.args.flags }
