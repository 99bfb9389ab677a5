use Rattle.std.proofs.Common.{◌≡◌, ℕ, ◌+◌, ◌≤◌, take, drop, vec_items, subst, sym, ap, ◌∙◌, arith}
use mathlib.Core.Path.{fun_ext}
use Rattle.std.specs.List.{prefix_len}
use Rattle.std.proofs.lemmas.List.{take_rest}
use Rattle.panel.specs.Places.{Gone, Coming, lines_in}
use Rattle.panel.proofs.Records.{by, due_from, gone_after, coming_after}
use Rattle.panel.proofs.schedule.Schedule.advance.Goals as goal

pub invariant_of-self : goal.invariant_of-self
invariant_of-self c =
    let s = c.args.self.now in
    let ds = vec_items s.records in
    let until = c.clock_after-until.result in
    let on : s.clock ≤ until = omega (arith, c.clock_after-until.ensures) in
    let coming = take_rest c.deref.result.now s.next ∙ ap (drop s.next) c.deref.ensures.value in
    let due : c.due_by-due.result.0 ≡ prefix_len (by until) (drop s.next ds) = c.due_by-due.ensures.count ∙ ap (prefix_len (by until)) coming in
    record {
      order = s.order;
      gone = subst (λ (n : ℕ). Gone ds (s.next + n) until) (sym due) (gone_after ds s.next s.clock until s.gone on);
      coming = subst (λ (n : ℕ). Coming ds (s.next + n) until) (sym due) (coming_after ds s.next s.clock until s.gone on s.order);
    }

pub returns-clause-lines : goal.returns-clause-lines
returns-clause-lines c =
    let s = c.args.self.now in
    let ds = vec_items s.records in
    let until = c.clock_after-until.result in
    let coming = take_rest c.deref.result.now s.next ∙ ap (drop s.next) c.deref.ensures.value in
    let due : c.due_by-due.result.0 ≡ prefix_len (by until) (drop s.next ds) = c.due_by-due.ensures.count ∙ ap (prefix_len (by until)) coming in
    c.due_by-due.ensures.lines ∙ (λ i. lines_in (take (due i) (coming i)))
    ∙ fun_ext (λ line. due_from ds s.next s.clock until line s.order s.gone s.coming)
