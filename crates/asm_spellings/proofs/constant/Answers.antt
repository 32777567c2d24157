use Rattle.asm_spellings.proofs.Laws.{constant-at}
use borrow.Author.Rules.{rules}
use Rattle.asm_spellings.proofs.constant.Goals as goal

pub returns : goal.returns
returns c = constant-at c.args.n (search rules)
