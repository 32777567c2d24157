use Rattle.std.proofs.Common.{refl}
use Rattle.entry.proofs.Laws.{pulled-law}
use Rattle.entry.proofs.pull.Goals as goal

pub returns : goal.returns
returns c =
    pulled-law c.args.regs.now c.args.mem.now _ _ _ _ _ _ _ _ _
    c.word_at-x.ensures refl c.word_at-p.ensures refl c.word_at-lr.ensures refl c.word_at-pc.ensures refl c.set_three.ensures
