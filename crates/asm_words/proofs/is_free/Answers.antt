use Rattle.asm_words.specs.Words.{free?}
use Rattle.asm_words.proofs.Laws.{not-free}
use Rattle.asm_words.proofs.is_free.Goals as goal

pub returns-in-Free : goal.returns-in-Free
unfolding free?
returns-in-Free c = rw c.in-Free.is

pub returns-in_default : goal.returns-in_default
returns-in_default c = not-free c.args.w c.in_default.not-Free
