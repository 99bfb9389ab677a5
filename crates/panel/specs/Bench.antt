-- The bench panel: bytes, a clock, and lines that rise as the clock moves to their numbers.
use Rattle.std.specs.Prelude.{ℕ, ◌+◌, min, Bool, cond, ◌&&◌, ◌==◌, nat_lt}
use Rattle.panel.specs.Rules.{Rules}

pub record Bench : Type 0 where
  -- the byte last put to each code
  pub bytes : ℕ → ℕ
  -- the states passed, as far as the clock counts
  pub clock : ℕ
  -- whether the schedule has a record of this number and this line
  pub due : ℕ → ℕ → Bool

-- the clock stands still at its last number
abbrev pub last_number : ℕ
last_number = 4294967295

-- every byte is 0
abbrev pub zeroed : ℕ → ℕ
zeroed code = 0

-- a fresh bench panel with a schedule
abbrev pub bench_start : (ℕ → ℕ → Bool) → Bench
bench_start due = record { bytes = zeroed; clock = 0; due = due }

-- a line rises when the clock moves to the number of its record
abbrev pub bench_rules : Rules Bench
bench_rules = record {
  shown = λ s code. s.bytes code;
  putting = λ s code byte. record { bytes = λ k. cond (k == code) byte (s.bytes k); clock = s.clock; due = s.due };
  state = λ s. record { bytes = s.bytes; clock = min (s.clock + 1) last_number; due = s.due };
  rising = λ s line. (nat_lt s.clock last_number && nat_lt line 11) && s.due (s.clock + 1) line;
  clearing = λ s. record { bytes = zeroed; clock = s.clock; due = s.due };
}
