use Rattle.std.proofs.Common.{◌+◌, ◌*◌, drop, vec_items, sym, ap, ◌∙◌}
use Rattle.session.specs.Load.{stored}
use Rattle.session.proofs.Loading.{stored_more, stored_all}
use Rattle.session.proofs.load.store_page.Goals as goal

pub loop-i-preserved : goal.loop-i-preserved
loop-i-preserved c =
    let start = 256 * c.from-start.result in
    let bytes = c.args.bytes.now in
    ap (λ m. stored m (start + (c.loop-i.i + 1)) (drop (c.loop-i.i + 1) bytes)) c.store_byte.ensures
    ∙ stored_more (vec_items c.loop-i.memory) start c.loop-i.i bytes c.loop-i-test.true
    ∙ c.loop-i.invariant

pub returns : goal.returns
returns c =
    let start = 256 * c.from-start.result in
    sym (stored_all (vec_items c.loop-i.memory) (start + c.loop-i.i) c.loop-i.i c.args.bytes.now c.loop-i-test.false)
    ∙ c.loop-i.invariant
    ∙ ap (λ page. stored (vec_items c.args.memory.now) (256 * page) c.args.bytes.now) c.from-start.ensures
