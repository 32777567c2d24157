use Rattle.asm_spellings.proofs.Laws.{move_at}
use borrow.Author.Rules.{rules}
use Rattle.asm_spellings.proofs.move_name.Goals as goal

pub returns : goal.returns
returns c = move_at c.args.op (search rules)
