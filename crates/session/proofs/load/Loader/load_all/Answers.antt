use Rattle.std.proofs.Common.{Err, sym, ap, ◌∙◌}
use Rattle.std.proofs.lemmas.Result.{err_from_is_err_and}
use Rattle.session.specs.Load.{Loaded, Ending}
use Rattle.session.proofs.Loading.{loads_more, loads_fault, loads_end}
use Rattle.session.proofs.load.Loader.load_all.Goals as goal

pub returns-in_err-place : goal.returns-in_err-place
returns-in_err-place c =
    let l = c.loop-place in
    let h = c.in_err-place.ensures in
    let p = err_from_is_err_and c.from_residual.result c.from_residual.ensures.1 in
    let all = sym l.invariant.2 ∙ loads_fault c.args.session.now l.self l.place l.invariant.0 _ c.loop-place-test.true h.after _ (sym h.answer) in
    record { answer = p.1 ∙ ap Err p.2 ∙ sym (ap (λ (q : Ending). q.1) all); after = sym (ap (λ (q : Ending). q.0) all) }

pub loop-place-preserved : goal.loop-place-preserved
loop-place-preserved c =
    let l = c.loop-place in
    let h = c.in_ok-place.ensures in (
      h.inside.2,
      h.inside.1,
      loads_more c.args.session.now l.self l.place l.invariant.0 _ c.loop-place-test.true h.after _ (sym h.answer) ∙ l.invariant.2,
    )

pub returns-then-not-self : goal.returns-then-not-self
returns-then-not-self c =
    let l = c.loop-place in
    let ended = sym (ap (λ (s : Loaded). s.ended) c.self.view_is) ∙ c.if-not-self.true in
    let all = sym l.invariant.2 ∙ loads_end c.args.session.now l.self l.place l.invariant.0 c.loop-place-test.false in
    record { answer = sym (ap (λ (q : Ending). q.1) all ∙ rw ended); after = sym (ap (λ (q : Ending). q.0) all) }

pub returns : goal.returns
returns c =
    let l = c.loop-place in
    let ended = sym (ap (λ (s : Loaded). s.ended) c.self.view_is) ∙ c.if-not-self.false in
    let all = sym l.invariant.2 ∙ loads_end c.args.session.now l.self l.place l.invariant.0 c.loop-place-test.false in
    record { answer = sym (ap (λ (q : Ending). q.1) all ∙ rw ended); after = sym (ap (λ (q : Ending). q.0) all) }
