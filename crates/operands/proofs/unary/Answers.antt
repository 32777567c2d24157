-- `operands::unary` meets its contract. Assumes nothing.
use lib.ListN.{get_or-eq_default}
use Rattle.machine.specs.Effect.{unary_op}
use Rattle.word.proofs.Laws.{past}
use Rattle.operands.proofs.unary.Goals as goal

pub returns-in_default : goal.returns-in_default
unfolding unary_op
returns-in_default c = let h = past c.args.op 2 c.in_default.in_default-own.rest in rw get_or-eq_default

pub returns-in-0 : goal.returns-in-0
unfolding unary_op
returns-in-0 c = rw c.in-0.is

pub returns-in-1 : goal.returns-in-1
unfolding unary_op
returns-in-1 c = rw c.in-1.is
