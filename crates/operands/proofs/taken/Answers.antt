-- `operands::taken` meets its contract. Assumes nothing.
use Rattle.std.proofs.Common.{div-one}
use lib.ListN.{get_or-eq_default}
use Rattle.machine.specs.Effect.{taken_of}
use Rattle.word.proofs.Laws.{past}
use Rattle.operands.proofs.taken.Goals as goal

pub returns-in-2 : goal.returns-in-2
unfolding taken_of
returns-in-2 c = rw (c.in-2.is, div-one)

pub returns-in-3 : goal.returns-in-3
unfolding taken_of
returns-in-3 c = rw (c.in-3.is, div-one)

pub returns-in-5 : goal.returns-in-5
unfolding taken_of
returns-in-5 c = rw (c.in-5.is, c.at_least.ensures)

pub returns-in-6 : goal.returns-in-6
unfolding taken_of
returns-in-6 c = rw (c.in-6.is, c.at_least-in-6.ensures)

pub returns-in_default : goal.returns-in_default
unfolding taken_of
returns-in_default c = let h = past c.args.n 7 c.in_default.in_default-own.rest in rw get_or-eq_default

pub returns-in-0 : goal.returns-in-0
unfolding taken_of
returns-in-0 c = rw c.in-0.is

pub returns-in-1 : goal.returns-in-1
unfolding taken_of
returns-in-1 c = rw c.in-1.is

pub returns-in-4 : goal.returns-in-4
unfolding taken_of
returns-in-4 c = rw c.in-4.is
