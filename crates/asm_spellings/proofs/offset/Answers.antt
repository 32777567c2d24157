use Rattle.asm_spellings.proofs.Laws.{offset_up, offset-down}
use borrow.Author.Rules.{rules}
use Rattle.asm_spellings.proofs.offset.Goals as goal

pub returns-then-o-lt64 : goal.returns-then-o-lt64
returns-then-o-lt64 c = rw c.number.ensures (offset_up c.args.o (search rules))

pub returns : goal.returns
returns c = rw c.number-2.ensures (offset-down c.args.o (search rules) (search rules))
