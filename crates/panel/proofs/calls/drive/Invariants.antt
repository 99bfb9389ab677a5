use Rattle.std.proofs.Common.{◌≡◌, drop}
use Rattle.panel.specs.Calls.{driven}
use Rattle.panel.proofs.calls.drive.Given as goal

-- the calls that are left bring what all of them bring
abbrev pub invariant-loop-call : goal.invariant-loop-call
invariant-loop-call g l =
    driven g.P.Panel.rules (g.P.Panel.standing l.panel) (drop l.call-index l.calls)
    ≡ driven g.P.Panel.rules (g.P.Panel.standing l.initial.panel) l.calls
