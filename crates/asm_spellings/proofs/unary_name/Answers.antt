use Rattle.asm_spellings.proofs.Laws.{unary-at}
use borrow.Author.Rules.{rules}
use Rattle.asm_spellings.proofs.unary_name.Goals as goal

pub returns : goal.returns
returns c = unary-at c.args.op (search rules)
