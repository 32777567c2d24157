-- `flags::Kept::even_condition` meets its contract. Assumes nothing.
use Prim.Native.Nat.{◌*◌}
use native.Mathlib.Omega.{arith}
use Rattle.machine.specs.Cex.{condition_of}
use Rattle.word.proofs.Laws.{past}
use Rattle.operands.proofs.Laws.{never}
use Rattle.flags.proofs.Conditions.{equal-kept, carry-kept, negative-kept, overflow-kept, higher-kept, greater-kept}
use Rattle.flags.proofs.Kept.even_condition.Goals as goal

pub returns-in-5 : goal.returns-in-5
unfolding condition_of
returns-in-5 c p = rw c.in-5.is (c.below.ensures p)

pub returns-in-6 : goal.returns-in-6
returns-in-6 c p = rw c.in-6.is (greater-kept p _ _ _ c.zero-in-6.ensures (c.below-in-6.ensures p))

pub returns-in_default : goal.returns-in_default
returns-in_default c p =
    let h = past c.args.k 8 c.in_default.in_default-own.rest in
    never (2 * c.args.k) _ (omega arith)

pub returns-in-0 : goal.returns-in-0
returns-in-0 c p = rw c.in-0.is (equal-kept p _ _ _ c.zero.ensures)

pub returns-in-1 : goal.returns-in-1
returns-in-1 c p = rw c.in-1.is (carry-kept p _ _ _)

pub returns-in-2 : goal.returns-in-2
returns-in-2 c p = rw c.in-2.is (negative-kept p _ _ _ c.negative.ensures)

pub returns-in-3 : goal.returns-in-3
returns-in-3 c p = rw c.in-3.is (overflow-kept p _ _ _)

pub returns-in-4 : goal.returns-in-4
returns-in-4 c p = rw c.in-4.is (higher-kept p _ _ _ c.zero-in-4.ensures)

pub returns-in-7 : goal.returns-in-7
unfolding condition_of
returns-in-7 c p = rw c.in-7.is
