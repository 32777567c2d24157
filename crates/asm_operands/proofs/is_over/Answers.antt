use borrow.Author.Tests.{le-leb, lt-leb}
use Rattle.asm_operands.specs.Operands.{over?}
use Rattle.asm_operands.proofs.is_over.Goals as goal

pub returns-then-line-i : goal.returns-then-line-i
unfolding over?
returns-then-line-i c = simp (le-leb _ _ c.if-line-i.true)

pub returns : goal.returns
unfolding over?
returns c = simp (lt-leb _ _ c.if-line-i.false)
