use Rattle.asm_spellings.proofs.Laws.{operation-at}
use borrow.Author.Rules.{rules}
use Rattle.asm_spellings.proofs.operation_name.Goals as goal

pub returns : goal.returns
returns c = operation-at c.args.op (search rules)
