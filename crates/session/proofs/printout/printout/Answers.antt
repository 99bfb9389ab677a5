use Rattle.std.proofs.Common.{◌≡◌, ◌-◌, take, replicate, vec_items, refl, ap, ◌∙◌, arith}
use Rattle.std.proofs.lemmas.Result.{IfOk-weaker}
use Rattle.session.specs.Play.{blank, listed}
use Rattle.session.proofs.Putting.{front}
use Rattle.session.proofs.printout.printout.Goals as goal

-- stated apart, so that nothing else opens the 65,536 bytes
is_blank : replicate 65536 0 ≡ blank
unfolding blank
is_blank = refl

pub returns : goal.returns
returns c =
    let p = c.play_listed-written.ensures.listing in
    let m : vec_items c.in_ok-memory.memory ≡ blank = c.in_ok-memory.ensures.items_if_clones_equal (λ y e. e) ∙ is_blank in
    let whole : c.play_listed-written.result.written - 0 ≡ c.play_listed-written.result.written = omega arith in
    let text = ap (λ n. take n c.play_listed-written.new.listing) whole ∙ front p ∙ ap (λ memory. (listed 2048 c.args.session.now memory).text) m in
    IfOk-weaker c.from_slice.result _ _ (λ v h. h ∙ text) c.from_slice.ensures.items
