use Rattle.std.proofs.Common.{take, ap, ◌∙◌, arith}
use Rattle.std.proofs.lemmas.Bool.{lt-leb}
use Rattle.std.proofs.lemmas.Bool.Decides.{nat_tests}
use Rattle.std.proofs.lemmas.List.Sums.{prefix_len-drop_no, prefix_len-drop_all}
use Rattle.lines.specs.Of.{lines_of}
use Rattle.panel.specs.Places.{lines_in, no_record}
use Rattle.panel.proofs.Records.{by, front_more, front_ends}
use Rattle.panel.proofs.schedule.due_by.Goals as goal
use Rattle.panel.proofs.schedule.due_by.Goals.{in-Ok, in_default}

pub returns-then-due-until-clause-lines : goal.returns-then-due-until-clause-lines
returns-then-due-until-clause-lines c =
    let ds = c.args.records.now in
    let i = c.loop-count.count in
    let none = prefix_len-drop_no (by c.args.until) ds i no_record c.loop-count-test.true (lt-leb _ c.args.until c.if-due-until.true) in
    front_ends ds i c.args.until _ none c.loop-count.invariant.0 c.loop-count.invariant.1

pub loop-count-preserved : goal.loop-count-preserved
loop-count-preserved c =
    let more = front_more c.args.records.now c.loop-count.count c.args.until c.loop-count-test.true (omega (arith, c.if-due-until.false)) in (
      omega (arith, c.loop-count.invariant.0, more.0),
      λ line. let step = more.1 line in
          let inv = c.loop-count.invariant.1 line in
          elim c.match-try_from.branch [
            | in-Ok w ↦ let l = ap (λ x. lines_of x line) w.lines-is in let e = ap (λ f. f line) w.insert.ensures in grind (arith, nat_tests)
            | in_default w ↦ let l = ap (λ x. lines_of x line) w.lines-is in grind (arith, nat_tests)
          ],
    )

pub returns-clause-lines : goal.returns-clause-lines
returns-clause-lines c =
    let ds = c.args.records.now in
    let i = c.loop-count.count in
    let none = prefix_len-drop_all (by c.args.until) ds i (omega (arith, c.loop-count-test.false)) in
    front_ends ds i c.args.until _ none c.loop-count.invariant.0 c.loop-count.invariant.1
    ∙ ap (λ n. lines_in (take n ds)) (omega (arith, c.loop-count.auto.count-end, c.loop-count-test.false))
