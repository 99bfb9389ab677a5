use Rattle.std.proofs.Common.{◌≡◌, ◌<◌, sym, ◌∙◌, arith}
use Rattle.timers.specs.Timing.{stops0, stops1, choice0, choice1}
use Rattle.timers.specs.Counting.{matches0, matches1, raised_by}
use Rattle.timers.specs.Paces.{ran_at, matched_at}
use Rattle.timers.specs.TimersOf.{timing_of}
use Rattle.timers.proofs.Paces.{ran_paced, matched_paced, pace_of_1}
use Rattle.timers.proofs.Stretch.{passed_by, rose_by}
use Rattle.timers.proofs.pair.TimerPair.pass.Goals as goal

pub returns : goal.returns
returns c =
    let s = timing_of c.args.self.now in
    let n = c.args.states in
    let low0 : s.timer0.prescaler < 128 = omega arith in
    let low1 : s.timer1.prescaler < 128 = omega arith in
    let pace0 = c.of_mode.ensures in
    let pace1 = c.of_mode-2.ensures ∙ pace_of_1 s.tmm in
    let first : c.pass-first.result ≡ matches0 s n = c.pass-first.ensures.matched
    ∙ (λ i. matched_at (pace0 i) 0 n s.tm0 s.timer0) ∙ matched_paced (choice0 s.tmm) 0 n (stops0 s.tmm) s.tm0 s.timer0 in
    let second : c.pass-second.result ≡ matches1 s n = c.pass-second.ensures.matched
    ∙ (λ i. matched_at (pace1 i) (first i) n s.tm1 s.timer1) ∙ matched_paced (choice1 s.tmm) (matches0 s n) n (stops1 s.tmm) s.tm1 s.timer1 in
    record {
      after = (λ i. record {
        tmm = s.tmm;
        tm0 = c.pass-first.ensures.tm i;
        tm1 = c.pass-second.ensures.tm i;
        timer0 = (c.pass-first.ensures.after
            ∙ (λ j. ran_at (pace0 j) 0 n s.tm0 s.timer0) ∙ ran_paced (choice0 s.tmm) 0 n (stops0 s.tmm) s.tm0 s.timer0) i;
        timer1 = (c.pass-second.ensures.after
            ∙ (λ j. ran_at (pace1 j) (first j) n s.tm1 s.timer1) ∙ ran_paced (choice1 s.tmm) (matches0 s n) n (stops1 s.tmm) s.tm1 s.timer1) i;
      }) ∙ sym (passed_by s low0 low1 n);
      lines = c.raise-2.ensures ∙ (λ i. raised_by 2 (second i) ((c.raise.ensures ∙ (λ j. raised_by 1 (first j) (c.empty-lines.ensures j))) i)) ∙ sym (rose_by s low0 low1 n);
    }
