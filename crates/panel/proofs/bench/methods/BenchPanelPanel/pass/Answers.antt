use Rattle.std.proofs.Common.{ℕ, ◌+◌, ◌≤◌, min, get_or, vec_items, sym, ap, ◌∙◌, arith}
use Rattle.panel.specs.Bench.{last_number}
use Rattle.panel.specs.Places.{due_in}
use Rattle.panel.specs.Schedule.{scheduled}
use Rattle.panel.proofs.Clock.{passed_by, rose_by}
use Rattle.panel.proofs.bench.methods.BenchPanelPanel.pass.Goals as goal

pub returns : goal.returns
returns c =
    let p = c.args.self.now in
    let s = p.schedule in
    let n : ℕ = min c.args.states 59 in
    let bytes : ℕ → ℕ = λ code. get_or p.bytes code 0 in
    let ok : s.clock ≤ last_number = omega arith in
    let until = c.advance.ensures.clock ∙ ap (λ m. min (s.clock + m) last_number) c.states_of.ensures.value in
    record {
      after = (λ i. record { bytes = bytes; clock = until i; due = scheduled (vec_items (c.advance.ensures.same i)) })
          ∙ sym (passed_by bytes s.clock (vec_items s.records) ok n);
      lines = c.advance.ensures.lines ∙ (λ i. due_in (vec_items s.records) s.clock (until i))
          ∙ sym (rose_by bytes s.clock (vec_items s.records) ok n);
    }
