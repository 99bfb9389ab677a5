-- The operands by their codes, both ways. A code that names none is read as the last; decoding rules it out.
use Rattle.std.specs.Prelude.{ℕ, ◌%◌, cond, Some, None, Option, ◌==◌}
use Rattle.alu.specs.Naming.{named}
use Rattle.alu.specs.declared.operation.Operation.{Operation}
use Rattle.alu.specs.declared.operation.Operation.TheVariants.{Equal}
use Rattle.lines.specs.Numbers.{line_at}
use Rattle.lines.specs.declared.line.Line.{Line}
use Rattle.lines.specs.declared.line.Line.TheVariants.{Fst}
use Rattle.registers.specs.Numbering.{byte_register}
use Rattle.registers.specs.declared.bank.ByteRegister.{ByteRegister}
use Rattle.registers.specs.declared.bank.ByteRegister.TheVariants as register
use Rattle.isa.specs.declared.operands.R1.{R1}
use Rattle.isa.specs.declared.operands.R1.TheVariants as r1
use Rattle.isa.specs.declared.operands.R2.{R2}
use Rattle.isa.specs.declared.operands.R2.TheVariants as r2
use Rattle.isa.specs.declared.operands.Rp.{Rp}
use Rattle.isa.specs.declared.operands.Rp.TheVariants as rp
use Rattle.isa.specs.declared.operands.Rp1.{Rp1}
use Rattle.isa.specs.declared.operands.Rp1.TheVariants as rp1
use Rattle.isa.specs.declared.operands.Rp2.{Rp2}
use Rattle.isa.specs.declared.operands.Rp2.TheVariants as rp2
use Rattle.isa.specs.declared.operands.Rp3.{Rp3}
use Rattle.isa.specs.declared.operands.Rp3.TheVariants as rp3
use Rattle.isa.specs.declared.operands.Rpa2.{Rpa2}
use Rattle.isa.specs.declared.operands.Rpa2.TheVariants as rpa2
use Rattle.isa.specs.declared.operands.Rpa3.{Rpa3}
use Rattle.isa.specs.declared.operands.Rpa3.TheVariants as rpa3
use Rattle.isa.specs.declared.operands.Flag.{Flag}
use Rattle.isa.specs.declared.operands.Flag.TheVariants as flag

unfoldable pub register_at : ℕ → ByteRegister
register_at n = byte_register (n % 8)

unfoldable pub r1_at : ℕ → R1
r1_at n =
    cond (n % 8 == 0) r1.Eah (
    cond (n % 8 == 1) r1.Eal (
    cond (n % 8 == 2) r1.B (
    cond (n % 8 == 3) r1.C (
    cond (n % 8 == 4) r1.D (
    cond (n % 8 == 5) r1.E (
    cond (n % 8 == 6) r1.H (
    r1.L)))))))

unfoldable pub r2_at : ℕ → R2
r2_at n =
    cond (n % 4 == 1) r2.A (
    cond (n % 4 == 2) r2.B (
    r2.C))

unfoldable pub rp_at : ℕ → Rp
rp_at n =
    cond (n % 4 == 0) rp.Sp (
    cond (n % 4 == 1) rp.Bc (
    cond (n % 4 == 2) rp.De (
    rp.Hl)))

unfoldable pub rp1_at : ℕ → Rp1
rp1_at n =
    cond (n % 8 == 0) rp1.Va (
    cond (n % 8 == 1) rp1.Bc (
    cond (n % 8 == 2) rp1.De (
    cond (n % 8 == 3) rp1.Hl (
    rp1.Ea))))

unfoldable pub rp2_at : ℕ → Rp2
rp2_at n =
    cond (n % 8 == 0) rp2.Sp (
    cond (n % 8 == 1) rp2.Bc (
    cond (n % 8 == 2) rp2.De (
    cond (n % 8 == 3) rp2.Hl (
    rp2.Ea))))

unfoldable pub rp3_at : ℕ → Rp3
rp3_at n =
    cond (n % 4 == 1) rp3.Bc (
    cond (n % 4 == 2) rp3.De (
    rp3.Hl))

unfoldable pub rpa2_at : ℕ → Rpa2
rpa2_at n =
    cond (n % 16 == 1) rpa2.Bc (
    cond (n % 16 == 2) rpa2.De (
    cond (n % 16 == 3) rpa2.Hl (
    cond (n % 16 == 4) rpa2.DeUp (
    cond (n % 16 == 5) rpa2.HlUp (
    cond (n % 16 == 6) rpa2.DeDown (
    cond (n % 16 == 7) rpa2.HlDown (
    cond (n % 16 == 11) rpa2.DeByte (
    cond (n % 16 == 12) rpa2.HlA (
    cond (n % 16 == 13) rpa2.HlB (
    cond (n % 16 == 14) rpa2.HlEa (
    rpa2.HlByte)))))))))))

unfoldable pub rpa3_at : ℕ → Rpa3
rpa3_at n =
    cond (n % 16 == 2) rpa3.De (
    cond (n % 16 == 3) rpa3.Hl (
    cond (n % 16 == 4) rpa3.DeUpTwo (
    cond (n % 16 == 5) rpa3.HlUpTwo (
    cond (n % 16 == 11) rpa3.DeByte (
    cond (n % 16 == 12) rpa3.HlA (
    cond (n % 16 == 13) rpa3.HlB (
    cond (n % 16 == 14) rpa3.HlEa (
    rpa3.HlByte))))))))

unfoldable pub flag_at : ℕ → Flag
flag_at n =
    cond (n % 8 == 2) flag.Carry (
    cond (n % 8 == 3) flag.Half (
    flag.Zero))

abbrev pub operation_or : Option Operation → Operation
operation_or (Some operation) = operation
operation_or None = Equal

unfoldable pub operation_at : ℕ → Operation
operation_at n = operation_or (named n)

abbrev pub line_or : Option Line → Line
line_or (Some line) = line
line_or None = Fst

unfoldable pub line_coded : ℕ → Line
line_coded n = line_or (line_at n)

abbrev pub register_code : ByteRegister → ℕ
register_code register.V = 0
register_code register.A = 1
register_code register.B = 2
register_code register.C = 3
register_code register.D = 4
register_code register.E = 5
register_code register.H = 6
register_code register.L = 7

abbrev pub r1_code : R1 → ℕ
r1_code r1.Eah = 0
r1_code r1.Eal = 1
r1_code r1.B = 2
r1_code r1.C = 3
r1_code r1.D = 4
r1_code r1.E = 5
r1_code r1.H = 6
r1_code r1.L = 7

abbrev pub r2_code : R2 → ℕ
r2_code r2.A = 1
r2_code r2.B = 2
r2_code r2.C = 3

abbrev pub rp_code : Rp → ℕ
rp_code rp.Sp = 0
rp_code rp.Bc = 1
rp_code rp.De = 2
rp_code rp.Hl = 3

abbrev pub rp1_code : Rp1 → ℕ
rp1_code rp1.Va = 0
rp1_code rp1.Bc = 1
rp1_code rp1.De = 2
rp1_code rp1.Hl = 3
rp1_code rp1.Ea = 4

abbrev pub rp2_code : Rp2 → ℕ
rp2_code rp2.Sp = 0
rp2_code rp2.Bc = 1
rp2_code rp2.De = 2
rp2_code rp2.Hl = 3
rp2_code rp2.Ea = 4

abbrev pub rp3_code : Rp3 → ℕ
rp3_code rp3.Bc = 1
rp3_code rp3.De = 2
rp3_code rp3.Hl = 3

abbrev pub rpa2_code : Rpa2 → ℕ
rpa2_code rpa2.Bc = 1
rpa2_code rpa2.De = 2
rpa2_code rpa2.Hl = 3
rpa2_code rpa2.DeUp = 4
rpa2_code rpa2.HlUp = 5
rpa2_code rpa2.DeDown = 6
rpa2_code rpa2.HlDown = 7
rpa2_code rpa2.DeByte = 11
rpa2_code rpa2.HlA = 12
rpa2_code rpa2.HlB = 13
rpa2_code rpa2.HlEa = 14
rpa2_code rpa2.HlByte = 15

abbrev pub rpa3_code : Rpa3 → ℕ
rpa3_code rpa3.De = 2
rpa3_code rpa3.Hl = 3
rpa3_code rpa3.DeUpTwo = 4
rpa3_code rpa3.HlUpTwo = 5
rpa3_code rpa3.DeByte = 11
rpa3_code rpa3.HlA = 12
rpa3_code rpa3.HlB = 13
rpa3_code rpa3.HlEa = 14
rpa3_code rpa3.HlByte = 15

abbrev pub flag_code : Flag → ℕ
flag_code flag.Carry = 2
flag_code flag.Half = 3
flag_code flag.Zero = 4
