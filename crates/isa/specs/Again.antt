-- Each operand is the one that its code names.
use Rattle.std.specs.Prelude.{◌≡◌, refl}
use Rattle.alu.specs.Naming.{operation_code}
use Rattle.alu.specs.declared.operation.Operation.{Operation}
use Rattle.alu.specs.declared.operation.Operation.TheVariants as operation
use Rattle.lines.specs.Numbers.{number_of}
use Rattle.lines.specs.declared.line.Line.{Line}
use Rattle.lines.specs.declared.line.Line.TheVariants as line
use Rattle.registers.specs.declared.bank.ByteRegister.{ByteRegister}
use Rattle.registers.specs.declared.bank.ByteRegister.TheVariants as register
use Rattle.isa.specs.declared.operands.R1.{R1}
use Rattle.isa.specs.declared.operands.R1.TheVariants as r1
use Rattle.isa.specs.declared.operands.R2.{R2}
use Rattle.isa.specs.declared.operands.R2.TheVariants as r2
use Rattle.isa.specs.declared.operands.Rp.{Rp}
use Rattle.isa.specs.declared.operands.Rp.TheVariants as rp
use Rattle.isa.specs.declared.operands.Rp1.{Rp1}
use Rattle.isa.specs.declared.operands.Rp1.TheVariants as rp1
use Rattle.isa.specs.declared.operands.Rp2.{Rp2}
use Rattle.isa.specs.declared.operands.Rp2.TheVariants as rp2
use Rattle.isa.specs.declared.operands.Rp3.{Rp3}
use Rattle.isa.specs.declared.operands.Rp3.TheVariants as rp3
use Rattle.isa.specs.declared.operands.Rpa2.{Rpa2}
use Rattle.isa.specs.declared.operands.Rpa2.TheVariants as rpa2
use Rattle.isa.specs.declared.operands.Rpa3.{Rpa3}
use Rattle.isa.specs.declared.operands.Rpa3.TheVariants as rpa3
use Rattle.isa.specs.declared.operands.Flag.{Flag}
use Rattle.isa.specs.declared.operands.Flag.TheVariants as flag
use Rattle.isa.specs.Codes.{register_at, r1_at, r2_at, rp_at, rp1_at, rp2_at, rp3_at, rpa2_at, rpa3_at, flag_at, operation_at, line_coded, register_code, r1_code, r2_code, rp_code, rp1_code, rp2_code, rp3_code, rpa2_code, rpa3_code, flag_code}

pub register_again : (x : ByteRegister) → register_at (register_code x) ≡ x
unfolding register_at
register_again = elim [ register.V ↦ refl | register.A ↦ refl | register.B ↦ refl | register.C ↦ refl | register.D ↦ refl | register.E ↦ refl | register.H ↦ refl | register.L ↦ refl ]

pub r1_again : (x : R1) → r1_at (r1_code x) ≡ x
unfolding r1_at
r1_again = elim [ r1.Eah ↦ refl | r1.Eal ↦ refl | r1.B ↦ refl | r1.C ↦ refl | r1.D ↦ refl | r1.E ↦ refl | r1.H ↦ refl | r1.L ↦ refl ]

pub r2_again : (x : R2) → r2_at (r2_code x) ≡ x
unfolding r2_at
r2_again = elim [ r2.A ↦ refl | r2.B ↦ refl | r2.C ↦ refl ]

pub rp_again : (x : Rp) → rp_at (rp_code x) ≡ x
unfolding rp_at
rp_again = elim [ rp.Sp ↦ refl | rp.Bc ↦ refl | rp.De ↦ refl | rp.Hl ↦ refl ]

pub rp1_again : (x : Rp1) → rp1_at (rp1_code x) ≡ x
unfolding rp1_at
rp1_again = elim [ rp1.Va ↦ refl | rp1.Bc ↦ refl | rp1.De ↦ refl | rp1.Hl ↦ refl | rp1.Ea ↦ refl ]

pub rp2_again : (x : Rp2) → rp2_at (rp2_code x) ≡ x
unfolding rp2_at
rp2_again = elim [ rp2.Sp ↦ refl | rp2.Bc ↦ refl | rp2.De ↦ refl | rp2.Hl ↦ refl | rp2.Ea ↦ refl ]

pub rp3_again : (x : Rp3) → rp3_at (rp3_code x) ≡ x
unfolding rp3_at
rp3_again = elim [ rp3.Bc ↦ refl | rp3.De ↦ refl | rp3.Hl ↦ refl ]

pub rpa2_again : (x : Rpa2) → rpa2_at (rpa2_code x) ≡ x
unfolding rpa2_at
rpa2_again = elim [ rpa2.Bc ↦ refl | rpa2.De ↦ refl | rpa2.Hl ↦ refl | rpa2.DeUp ↦ refl | rpa2.HlUp ↦ refl | rpa2.DeDown ↦ refl | rpa2.HlDown ↦ refl | rpa2.DeByte ↦ refl | rpa2.HlA ↦ refl | rpa2.HlB ↦ refl | rpa2.HlEa ↦ refl | rpa2.HlByte ↦ refl ]

pub rpa3_again : (x : Rpa3) → rpa3_at (rpa3_code x) ≡ x
unfolding rpa3_at
rpa3_again = elim [ rpa3.De ↦ refl | rpa3.Hl ↦ refl | rpa3.DeUpTwo ↦ refl | rpa3.HlUpTwo ↦ refl | rpa3.DeByte ↦ refl | rpa3.HlA ↦ refl | rpa3.HlB ↦ refl | rpa3.HlEa ↦ refl | rpa3.HlByte ↦ refl ]

pub flag_again : (x : Flag) → flag_at (flag_code x) ≡ x
unfolding flag_at
flag_again = elim [ flag.Carry ↦ refl | flag.Half ↦ refl | flag.Zero ↦ refl ]

pub operation_again : (x : Operation) → operation_at (operation_code x) ≡ x
unfolding operation_at
operation_again = elim [ operation.And ↦ refl | operation.Xor ↦ refl | operation.Or ↦ refl | operation.AddSkipNoCarry ↦ refl | operation.Greater ↦ refl | operation.SubSkipNoBorrow ↦ refl | operation.Less ↦ refl | operation.Add ↦ refl | operation.On ↦ refl | operation.AddWithCarry ↦ refl | operation.Off ↦ refl | operation.Sub ↦ refl | operation.NotEqual ↦ refl | operation.SubWithCarry ↦ refl | operation.Equal ↦ refl ]

pub line_again : (x : Line) → line_coded (number_of x) ≡ x
unfolding line_coded
line_again = elim [ line.Nmi ↦ refl | line.Ft0 ↦ refl | line.Ft1 ↦ refl | line.F1 ↦ refl | line.F2 ↦ refl | line.Fe0 ↦ refl | line.Fe1 ↦ refl | line.Fein ↦ refl | line.Fad ↦ refl | line.Fsr ↦ refl | line.Fst ↦ refl ]
