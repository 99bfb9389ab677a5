use Rattle.std.proofs.Common.{◌≡◌, ◌+◌, ◌-◌, ◌≤◌, length}
use Rattle.session.specs.Load.{loads, load_all}
use Rattle.session.proofs.load.Loader.load_all.Given as goal

-- playing the rest from here gives what playing the session gives
abbrev pub invariant-loop-place : goal.invariant-loop-place
invariant-loop-place l =
    (l.place.number ≤ l.place.offset) × (l.place.offset ≤ length l.session)
    × (loads (1 + length l.session - l.place.number) l.self l.session l.place.number l.place.offset ≡ load_all l.initial.self l.session)

abbrev pub decreases-loop-place : goal.decreases-loop-place
decreases-loop-place l = length l.session - l.place.offset
