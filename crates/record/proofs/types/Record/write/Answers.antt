use Rattle.std.proofs.Common.{sym, ap, ◌∙◌}
use Rattle.record.specs.Law.{reread}
use Rattle.record.specs.Wire.{said, reading}
use Rattle.record.proofs.Laws.{rereads}
use Rattle.record.proofs.types.Record.write.Goals as goal

pub returns : goal.returns
returns c =
    let w = c.write_at_start.ensures in
    let r = said c.args.self.now in
    let old = c.args.buffer.now in
    record {
      answer = w.answer;
      after = w.after;
      rereads = ap reading w.after ∙ rereads r old w.fits ∙ ap (λ answer. reread answer r old) (sym w.answer);
    }
