use Rattle.std.proofs.Common.{◌≡◌, ◌+◌, drop, vec_items}
use Rattle.session.specs.Load.{stored}
use Rattle.session.proofs.load.store_page.Given as goal

-- what is left of the page, put from here on, gives what the whole page gives
abbrev pub invariant-loop-i : goal.invariant-loop-i
invariant-loop-i l = stored (vec_items l.memory) (l.start + l.i) (drop l.i l.bytes) ≡ stored (vec_items l.initial.memory) l.start l.bytes
