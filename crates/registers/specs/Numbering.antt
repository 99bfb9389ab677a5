-- The registers by number: 0 to 7 V A B C D E H L, 8 to 15 their alternates, 16 EA, 17 its alternate, 18 SP, 19 PC, 20 PSW.
use Rattle.std.specs.Prelude.{◌≡◌, ℕ, List, codes, ◌-◌, ◌/◌, ◌%◌, Bool, cond, ◌&&◌, Some, None, Ok, Err, Option, Result, ◌==◌, nat_lt}
use Rattle.registers.specs.declared.bank.Bank.{Bank}
use Rattle.registers.specs.declared.bank.ByteRegister.{ByteRegister}
use Rattle.registers.specs.declared.bank.ByteRegister.TheVariants.{V, A, B, C, D, E, H, L}
use Rattle.registers.specs.declared.file.RegisterName.{RegisterName}
use Rattle.registers.specs.declared.file.RegisterName.TheVariants.{Main, Alternate, Ea, EaAlternate, Sp, Pc, Psw}
use Rattle.registers.specs.declared.file.Registers.{Registers}
use Rattle.registers.specs.declared.flags.Flags.{Flags}
use Rattle.registers.specs.declared.fault.RegisterFault.{RegisterFault}
use Rattle.registers.specs.declared.fault.RegisterFault.TheVariants.{NoSuchRegister, ValueOutOfRange}
use Rattle.registers.specs.Psw.{psw, flags_of}

-- the numbers of the refusals
abbrev pub fault_number : RegisterFault → ℕ
fault_number NoSuchRegister = 1
fault_number ValueOutOfRange = 2

-- the refusals in words
abbrev pub fault_text : RegisterFault → List ℕ
fault_text NoSuchRegister = codes "no register has this number"
fault_text ValueOutOfRange = codes "the register does not take this value"

-- the 8-bit registers in their order
abbrev pub byte_register : ℕ → ByteRegister
byte_register n =
    cond (n == 0) V (cond (n == 1) A (cond (n == 2) B (cond (n == 3) C (cond (n == 4) D (cond (n == 5) E (cond (n == 6) H L))))))

abbrev pub named : ℕ → Option RegisterName
named n =
    cond (nat_lt n 8) (Some (Main (byte_register n)))
    (cond (nat_lt n 16) (Some (Alternate (byte_register (n - 8))))
    (cond (n == 16) (Some Ea)
    (cond (n == 17) (Some EaAlternate)
    (cond (n == 18) (Some Sp)
    (cond (n == 19) (Some Pc)
    (cond (n == 20) (Some Psw) None))))))

-- one register of a bank, and a bank with one register replaced
abbrev pub held : ByteRegister → Bank → ℕ
held V k = k.v
held A k = k.a
held B k = k.b
held C k = k.c
held D k = k.d
held E k = k.e
held H k = k.h
held L k = k.l

abbrev pub holding : ByteRegister → ℕ → Bank → Bank
holding V x k = record k { v = x }
holding A x k = record k { a = x }
holding B x k = record k { b = x }
holding C x k = record k { c = x }
holding D x k = record k { d = x }
holding E x k = record k { e = x }
holding H x k = record k { h = x }
holding L x k = record k { l = x }

-- the value of a register; of the PSW its byte
abbrev pub value_of : RegisterName → Registers → ℕ
value_of (Main r) s = held r s.main
value_of (Alternate r) s = held r s.alternate
value_of Ea s = s.ea
value_of EaAlternate s = s.ea_alternate
value_of Sp s = s.sp
value_of Pc s = s.pc
value_of Psw s = psw s.flags

-- whether a register takes a value: 8 or 16 bits of it, and of the PSW only the bits of its flags
abbrev pub takes : RegisterName → ℕ → Bool
takes (Main r) x = nat_lt x 256
takes (Alternate r) x = nat_lt x 256
takes Ea x = nat_lt x 65536
takes EaAlternate x = nat_lt x 65536
takes Sp x = nat_lt x 65536
takes Pc x = nat_lt x 65536
takes Psw x = nat_lt x 128 && x / 2 % 2 == 0

-- the registers with one replaced
abbrev pub with_value : RegisterName → ℕ → Registers → Registers
with_value (Main r) x s = record s { main = holding r x s.main }
with_value (Alternate r) x s = record s { alternate = holding r x s.alternate }
with_value Ea x s = record s { ea = x }
with_value EaAlternate x s = record s { ea_alternate = x }
with_value Sp x s = record s { sp = x }
with_value Pc x s = record s { pc = x }
with_value Psw x s = record s { flags = flags_of x }

-- a register set, or refused where it does not take the value
abbrev pub storing : RegisterName → ℕ → Registers → Result Registers RegisterFault
storing name x s = cond (takes name x) (Ok (with_value name x s)) (Err ValueOutOfRange)

-- a register set by its number: refused first if there is none, then if it does not take the value
abbrev pub storing_in : Option RegisterName → ℕ → Registers → Result Registers RegisterFault
storing_in None x s = Err NoSuchRegister
storing_in (Some name) x s = storing name x s

-- a register read by its number
abbrev pub reading_of : Option RegisterName → Registers → Result ℕ RegisterFault
reading_of None s = Err NoSuchRegister
reading_of (Some name) s = Ok (value_of name s)

-- the flags of a value of the PSW, or the refusal
abbrev pub TakesFlags : ℕ → Result Flags RegisterFault → Type 0
TakesFlags x r = r ≡ cond (takes Psw x) (Ok (flags_of x)) (Err ValueOutOfRange)
