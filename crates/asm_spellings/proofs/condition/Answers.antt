use Rattle.asm_spellings.proofs.Laws.{condition-at}
use borrow.Author.Rules.{rules}
use Rattle.asm_spellings.proofs.condition.Goals as goal

pub returns : goal.returns
returns c = condition-at c.args.c (search rules)
