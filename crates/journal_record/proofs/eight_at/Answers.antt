use Rattle.journal_record.proofs.Laws.{eight-plain}
use Rattle.journal_record.proofs.eight_at.Goals as goal

pub returns : goal.returns
returns c b d w =
    let s = c in
    eight-plain b s.args.a d s.args.mem.now w s.requires.0 s.requires.1
