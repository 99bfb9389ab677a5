-- The two timers: their registers, and what one state makes of them.
use Rattle.std.specs.Prelude.{ℕ, ◌+◌, ◌/◌, ◌%◌, Bool, false, cond, not, ◌&&◌, ◌||◌, ◌==◌}
use Rattle.panel.specs.Rules.{Rules}

-- how far a timer has counted
pub record Count : Type 0 where
  pub prescaler : ℕ
  pub counter : ℕ

-- the mode register, the bytes to match, and both timers
pub record Timing : Type 0 where
  pub tmm : ℕ
  pub tm0 : ℕ
  pub tm1 : ℕ
  pub timer0 : Count
  pub timer1 : Count

-- bits 4 and 7 of TMM stop timers 0 and 1
abbrev pub stops0 : ℕ → Bool
stops0 tmm = tmm / 16 % 2 == 1

abbrev pub stops1 : ℕ → Bool
stops1 tmm = tmm / 128 % 2 == 1

-- bits 3-2 and 6-5 of TMM choose what the counters step by
abbrev pub choice0 : ℕ → ℕ
choice0 tmm = tmm / 4 % 4

abbrev pub choice1 : ℕ → ℕ
choice1 tmm = tmm / 32 % 4

-- a prescaler one state on, and a counter one step on
abbrev pub turned : ℕ → ℕ
turned prescaler = (prescaler + 1) % 128

abbrev pub stepped : ℕ → ℕ
stepped counter = (counter + 1) % 256

-- whether a counter steps, by the prescaler as it now is:
-- choice 0 is every 4 states, 1 every 128, and 3 each match of timer 0 that is carried over
abbrev pub steps_by : ℕ → Bool → ℕ → Bool
steps_by choice carried prescaler =
    cond (choice == 0) (prescaler % 4 == 0) (cond (choice == 1) (prescaler == 0) (choice == 3 && carried))

-- whether a timer's counter steps in this state
abbrev pub timer_steps : Bool → ℕ → Bool → Count → Bool
timer_steps stopped choice carried t = not stopped && steps_by choice carried (turned t.prescaler)

-- whether it then equals the byte to match
unfoldable pub timer_matches : Bool → ℕ → Bool → ℕ → Count → Bool
timer_matches stopped choice carried byte t = timer_steps stopped choice carried t && stepped t.counter == byte

-- a timer one state on: a counter that matches returns to 0
unfoldable pub timer_after : Bool → ℕ → Bool → ℕ → Count → Count
timer_after stopped choice carried byte t = record {
  prescaler = cond stopped t.prescaler (turned t.prescaler);
  counter = cond (timer_matches stopped choice carried byte t) 0 (cond (timer_steps stopped choice carried t) (stepped t.counter) t.counter);
}

-- whether timer 0 matches in this state: it goes first, so nothing is carried over to it
abbrev pub match0 : Timing → Bool
match0 s = timer_matches (stops0 s.tmm) (choice0 s.tmm) false s.tm0 s.timer0

-- whether timer 1 matches in this state
abbrev pub match1 : Timing → Bool
match1 s = timer_matches (stops1 s.tmm) (choice1 s.tmm) (match0 s) s.tm1 s.timer1

-- both timers one state on
abbrev pub timing_state : Timing → Timing
timing_state s = record {
  tmm = s.tmm;
  tm0 = s.tm0;
  tm1 = s.tm1;
  timer0 = timer_after (stops0 s.tmm) (choice0 s.tmm) false s.tm0 s.timer0;
  timer1 = timer_after (stops1 s.tmm) (choice1 s.tmm) (match0 s) s.tm1 s.timer1;
}

-- a match of timer 0 raises line 1, FT0, and one of timer 1 line 2, FT1
abbrev pub timing_rising : Timing → ℕ → Bool
timing_rising s line = (line == 1 && match0 s) || (line == 2 && match1 s)

-- a timer that has counted nothing
abbrev pub cleared : Count
cleared = record { prescaler = 0; counter = 0 }

-- the timers at the start, and after a reset
abbrev pub timing_start : Timing
timing_start = record { tmm = 255; tm0 = 0; tm1 = 0; timer0 = cleared; timer1 = cleared }

-- a byte put to TMM clears each timer that it stops
abbrev pub with_mode : Timing → ℕ → Timing
with_mode s byte = record {
  tmm = byte;
  tm0 = s.tm0;
  tm1 = s.tm1;
  timer0 = cond (stops0 byte) cleared s.timer0;
  timer1 = cond (stops1 byte) cleared s.timer1;
}

-- the codes that the timers have: TMM is 13, TM0 is 26 and TM1 is 27
abbrev pub timing_owns : ℕ → Bool
timing_owns code = code == 13 || (code == 26 || code == 27)

-- each register shows the byte last put
abbrev pub timing_shown : Timing → ℕ → ℕ
timing_shown s code = cond (code == 13) s.tmm (cond (code == 26) s.tm0 s.tm1)

-- a byte put to TM0 or TM1 changes nothing else
abbrev pub timing_putting : Timing → ℕ → ℕ → Timing
timing_putting s code byte =
    cond (code == 13) (with_mode s byte)
    (cond (code == 26) (record { tmm = s.tmm; tm0 = byte; tm1 = s.tm1; timer0 = s.timer0; timer1 = s.timer1 })
    (record { tmm = s.tmm; tm0 = s.tm0; tm1 = byte; timer0 = s.timer0; timer1 = s.timer1 }))

-- the rules at the codes that the timers have
abbrev pub timing_rules : Rules Timing
timing_rules = record { shown = timing_shown; putting = timing_putting; state = timing_state; rising = timing_rising; clearing = λ s. timing_start }
