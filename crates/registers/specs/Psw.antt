-- The program status word: six flags in one byte, Z in bit 6, SK 5, HC 4, L1 3, L0 2, CY 0.
use Rattle.std.specs.Prelude.{◌≡◌, ℕ, ◌+◌, ◌*◌, ◌/◌, ◌%◌, ◌^◌, Bool, cond, ◌==◌}
use Rattle.registers.specs.declared.flags.Flags.{Flags}

abbrev pub one : Bool → ℕ
one flag = cond flag 1 0

abbrev pub bit : ℕ → ℕ → Bool
bit n byte = byte / 2 ^ n % 2 == 1

-- the byte of the flags; its bits 7 and 1 are zero
abbrev pub psw : Flags → ℕ
psw f = 64 * one f.zero + 32 * one f.skip + 16 * one f.half + 8 * one f.l1 + 4 * one f.l0 + one f.carry

-- the flags of a byte, whatever its bits 7 and 1
abbrev pub flags_of : ℕ → Flags
flags_of byte = record { zero = bit 6 byte; skip = bit 5 byte; half = bit 4 byte; l1 = bit 3 byte; l0 = bit 2 byte; carry = bit 0 byte }

-- bits 6 to 2 and bit 0 of a byte
abbrev pub flag_bits : ℕ → ℕ
flag_bits byte = 4 * (byte / 4 % 32) + byte % 2

-- what a byte says of the flags that it was made of, and flags of the byte that they were made of
pub record IsByteOf (flags : Flags) (byte : ℕ) : Type 0 where
  pub value : byte ≡ psw flags
  pub inverse : flags_of byte ≡ flags

pub record AreFlagsOf (byte : ℕ) (flags : Flags) : Type 0 where
  pub value : flags ≡ flags_of byte
  pub inverse : psw flags ≡ flag_bits byte
