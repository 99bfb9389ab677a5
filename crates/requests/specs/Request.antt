-- All that is known of one interrupt line, and what a signal, an entry, a test and a reset make of it.
use Rattle.std.specs.Prelude.{◌≡◌, ℕ, ◌+◌, Bool, true, false, nat_lt}
use Rattle.requests.specs.declared.tally.Tally.{Tally}
use Rattle.requests.specs.declared.tally.Cause.{Cause}
use Rattle.requests.specs.declared.tally.Cause.TheVariants.{Entry, Test, Reset}

-- whether the mark is set, and what was counted: signals, those of them that found the mark set, and marks cleared by an entry, a test and a reset
pub record Request : Type 0 where
  pub waiting : Bool
  pub signals : ℕ
  pub merged : ℕ
  pub entered : ℕ
  pub tested : ℕ
  pub dropped : ℕ

-- a line that had no signal
abbrev pub quiet : Request
quiet = record { waiting = false; signals = 0; merged = 0; entered = 0; tested = 0; dropped = 0 }

-- what was counted of a line
abbrev pub tally_of : Request → Tally
tally_of r = record { signals = r.signals; merged = r.merged; entered = r.entered; tested = r.tested; dropped = r.dropped }

-- a line of its mark and its tally
abbrev pub request_of : Bool → Tally → Request
request_of waiting t = record { waiting = waiting; signals = t.signals; merged = t.merged; entered = t.entered; tested = t.tested; dropped = t.dropped }

-- 1 for a mark that is set
abbrev pub one : Bool → ℕ
one true = 1
one false = 0

-- every signal was merged, was cleared in one of the three ways, or waits
abbrev pub Whole : Request → Type 0
Whole r = r.signals ≡ r.merged + r.entered + r.tested + r.dropped + one r.waiting

-- the most signals that are counted of a line, 2^64 - 1, which no run comes near
abbrev pub last : ℕ
last = 18446744073709551615

-- a change under a condition
abbrev pub when : {A : Type 0} → Bool → (A → A) → A → A
when true f x = f x
when false f x = x

-- one signal more
abbrev pub counted : Request → Request
counted r = record { waiting = true; signals = r.signals + 1; merged = r.merged + one r.waiting; entered = r.entered; tested = r.tested; dropped = r.dropped }

-- a signal, which a line takes unless it had the most, so that a signal asks for nothing
abbrev pub signalled : Request → Request
signalled r = when (nat_lt r.signals last) counted r

-- the mark cleared by an entry
abbrev pub entering : Request → Request
entering r = record { waiting = false; signals = r.signals; merged = r.merged; entered = r.entered + one r.waiting; tested = r.tested; dropped = r.dropped }

-- the mark cleared by a test
abbrev pub testing : Request → Request
testing r = record { waiting = false; signals = r.signals; merged = r.merged; entered = r.entered; tested = r.tested + one r.waiting; dropped = r.dropped }

-- the mark cleared by a reset
abbrev pub dropping : Request → Request
dropping r = record { waiting = false; signals = r.signals; merged = r.merged; entered = r.entered; tested = r.tested; dropped = r.dropped + one r.waiting }

-- the mark cleared by a cause
abbrev pub cleared_by : Cause → Request → Request
cleared_by Entry = entering
cleared_by Test = testing
cleared_by Reset = dropping

-- a tally with one mark more cleared
abbrev pub cleared_in : Cause → Tally → Tally
cleared_in Entry t = record { signals = t.signals; merged = t.merged; entered = t.entered + 1; tested = t.tested; dropped = t.dropped }
cleared_in Test t = record { signals = t.signals; merged = t.merged; entered = t.entered; tested = t.tested + 1; dropped = t.dropped }
cleared_in Reset t = record { signals = t.signals; merged = t.merged; entered = t.entered; tested = t.tested; dropped = t.dropped + 1 }
