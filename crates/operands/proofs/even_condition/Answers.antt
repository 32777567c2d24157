-- `operands::even_condition` meets its contract. Assumes nothing.
use Rattle.std.proofs.Common.{◌*◌, div-one, arith}
use Rattle.machine.specs.Cex.{condition_of}
use Rattle.word.proofs.Laws.{past}
use Rattle.operands.proofs.Laws.{never}
use Rattle.operands.proofs.even_condition.Goals as goal

pub returns-in-1 : goal.returns-in-1
unfolding condition_of
returns-in-1 c = rw (c.in-1.is, div-one)

pub returns-in-4 : goal.returns-in-4
unfolding condition_of
returns-in-4 c = rw (c.in-4.is, div-one)

pub returns-in-5 : goal.returns-in-5
unfolding condition_of
returns-in-5 c = rw (c.in-5.is, c.at_least.ensures)

pub returns-in-6 : goal.returns-in-6
unfolding condition_of
returns-in-6 c = rw (c.in-6.is, c.at_least-in-6.ensures)

pub returns-in_default : goal.returns-in_default
returns-in_default c =
    let h = past c.args.k 8 c.in_default.in_default-own.rest in
    never (2 * c.args.k) c.args.psw (omega arith)

pub returns-in-0 : goal.returns-in-0
unfolding condition_of
returns-in-0 c = rw c.in-0.is

pub returns-in-2 : goal.returns-in-2
unfolding condition_of
returns-in-2 c = rw c.in-2.is

pub returns-in-3 : goal.returns-in-3
unfolding condition_of
returns-in-3 c = rw c.in-3.is

pub returns-in-7 : goal.returns-in-7
unfolding condition_of
returns-in-7 c = rw c.in-7.is
