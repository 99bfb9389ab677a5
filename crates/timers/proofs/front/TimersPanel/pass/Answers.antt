use Rattle.std.proofs.Common.{ℕ, min, ap, ◌∙◌}
use Rattle.panel.specs.Rules.{passed, rose}
use Rattle.panel.proofs.Both.{both_passed, both_rose}
use Rattle.timers.specs.Timing.{timing_rules, timing_owns}
use Rattle.timers.specs.TimersOf.{timing_of}
use Rattle.timers.proofs.front.TimersPanel.pass.Goals as goal

pub returns : goal.returns
returns g c =
    let p = g.P.Panel in
    let n : ℕ = min c.args.states 59 in
    let start = c.args.self.now in
    let own = timing_of start.pair in
    let behind = p.standing start.behind in
    record {
      after = both_passed timing_owns timing_rules p.rules own behind n
          (c.pass-lines.ensures.after ∙ ap (passed timing_rules own) c.states_of.ensures.value) c.pass-behind.ensures.after;
      lines = both_rose timing_owns timing_rules p.rules own behind n
          (c.pass-lines.ensures.lines ∙ ap (rose timing_rules own) c.states_of.ensures.value) c.pass-behind.ensures.lines c.join.ensures;
    }
