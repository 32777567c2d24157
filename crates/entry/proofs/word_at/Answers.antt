use Rattle.std.proofs.Common.{◌∙◌}
use Rattle.entry.proofs.Laws.{word-numbered}
use Rattle.entry.proofs.word_at.Goals as goal

pub returns : goal.returns
returns c = c.read_word.ensures ∙ word-numbered c.args.mem.now _ _ c.word_of.ensures.0
