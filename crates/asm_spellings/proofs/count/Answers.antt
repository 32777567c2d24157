use Rattle.asm_spellings.proofs.Laws.{count-short}
use borrow.Author.Rules.{rules}
use Rattle.asm_spellings.proofs.count.Goals as goal

pub returns : goal.returns
returns c = rw c.number.ensures (count-short c.args.n (search rules))
