use Rattle.std.proofs.Common.{◌≡◌, ℕ, ◌+◌, ◌||◌, drop}
use Rattle.std.specs.List.{prefix_len}
use Rattle.lines.specs.Of.{lines_of}
use Rattle.panel.specs.Places.{lines_in}
use Rattle.panel.proofs.Records.{by, front}
use Rattle.panel.proofs.schedule.due_by.Given as goal

abbrev pub invariant-loop-count : goal.invariant-loop-count
invariant-loop-count l =
    (l.count + prefix_len (by l.until) (drop l.count l.records) ≡ prefix_len (by l.until) l.records)
    × ((k : ℕ) → (lines_of l.lines k || lines_in (front l.until (drop l.count l.records)) k) ≡ lines_in (front l.until l.records) k)
