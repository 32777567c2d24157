use Rattle.asm_spellings.proofs.Laws.{branch-at}
use borrow.Author.Rules.{rules}
use Rattle.asm_spellings.proofs.branch_name.Goals as goal

pub returns : goal.returns
returns c = branch-at c.args.c (search rules)
