use Rattle.asm_spellings.proofs.Laws.{flags-at}
use borrow.Author.Rules.{rules}
use Rattle.asm_spellings.proofs.flags.Goals as goal

pub returns : goal.returns
returns c = flags-at c.args.f (search rules)
