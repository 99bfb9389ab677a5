use Rattle.std.proofs.Common.{◌≡◌, drop, Some, arith}
use Rattle.std.proofs.lemmas.List.{take_rest, length-drop}
use Rattle.std.proofs.lemmas.Option.{MatchOption-at_some}
use Rattle.record.proofs.Laws.{Read, reads_at, rewrites}
use Rattle.record.proofs.types.Record.read.Goals.{After-page_at-page}
use Rattle.record.specs.Wire.{said}
use Rattle.record.proofs.types.Record.read.Goals as goal

-- what was read has the bytes of the session from the offset on
is_read : (c : After-page_at-page) → Read (drop c.args.offset c.args.session.now) (said c.in_ok-value.value) c.in_ok-value.length
is_read c =
    let some : c.get.result ≡ Some c.in_ok-rest.rest = grind arith in
    let got = MatchOption-at_some _ _ _ some c.get.ensures.lookup.0 in
    let rest : c.in_ok-rest.rest.now ≡ drop c.args.offset c.args.session.now = simp take_rest at got.2 in
    reads_at c.args.session.now _ c.args.offset _ _ (λ i. omega (arith, c.type_inv.session i)) rest c.in_ok-value.ensures

pub returns-clause-inside : goal.returns-clause-inside
returns-clause-inside c =
    let p = is_read c in
    (p.some, omega (arith, p.inside, length-drop c.args.offset c.args.session.now))

pub returns-clause-rewrites : goal.returns-clause-rewrites
returns-clause-rewrites c = rewrites _ _ _ (is_read c)
