use Rattle.std.proofs.Common.{◌≡◌, ℕ, ◌+◌, vec_items, subst, sym, ap, ◌∙◌, zero-add, arith}
use Rattle.std.specs.List.{prefix_len}
use Rattle.panel.specs.Places.{InOrder, Gone, Coming}
use Rattle.panel.proofs.Ordered.{in_order, same_records}
use Rattle.panel.proofs.Records.{by, gone_after, coming_after}
use Rattle.panel.proofs.schedule.Schedule.new.Goals as goal

pub invariant_of-result : goal.invariant_of-result
invariant_of-result c =
    let ds = vec_items c.sort_unstable.new.self in
    let up : InOrder ds = in_order ds c.sort_unstable.ensures.sorted in
    let start : Gone ds 0 0 = (omega arith, λ k h. absurd (omega arith)) in
    let due : c.due_by-next.result.0 ≡ 0 + prefix_len (by 0) ds =
    c.due_by-next.ensures.count ∙ ap (prefix_len (by 0)) c.as_slice.ensures.value ∙ sym (zero-add (prefix_len (by 0) ds)) in
    record {
      order = up;
      gone = subst (λ (n : ℕ). Gone ds n 0) (sym due) (gone_after ds 0 0 0 start (omega arith));
      coming = subst (λ (n : ℕ). Coming ds n 0) (sym due) (coming_after ds 0 0 0 start (omega arith) up);
    }

pub returns-clause-same : goal.returns-clause-same
returns-clause-same c = same_records _ _ c.sort_unstable.ensures.permutation
