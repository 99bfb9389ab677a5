-- Which special registers an instruction can name, by their codes 0 to 63.
use Rattle.std.specs.Prelude.{ℕ, Bool, ◌&&◌, ◌||◌, ◌==◌, nat_le}

abbrev pub within : ℕ → ℕ → ℕ → Bool
within low high n = nat_le low n && nat_le n high

-- sr1: those that can be read into A
abbrev pub readable : ℕ → Bool
readable n = within 0x00 0x03 n || (within 0x05 0x09 n || (n == 0x0b || (n == 0x0d || (n == 0x19 || within 0x20 0x23 n))))

-- sr: those that can be written from A
abbrev pub writable : ℕ → Bool
writable n = within 0x00 0x03 n || (within 0x05 0x0d n || (within 0x10 0x14 n || (within 0x17 0x18 n || (within 0x1a 0x1b n || n == 0x28))))

-- sr2: those that can be both
abbrev pub both_ways : ℕ → Bool
both_ways n = within 0x00 0x03 n || (within 0x05 0x09 n || (n == 0x0b || n == 0x0d))
