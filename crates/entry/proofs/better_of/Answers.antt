use Rattle.std.proofs.Common.{arith, le-ltb, lt-ltb}
use Rattle.entry.proofs.better_of.Goals as goal

pub returns-then-priority_of : goal.returns-then-priority_of
returns-then-priority_of c =
    let t = lt-ltb _ _ c.if-e-lt8.true in
    (simp (t, ← c.priority_of.ensures, ← c.priority_of-then-e-lt8.ensures, lt-ltb _ _ c.if-priority_of.true), omega arith)

pub returns-else-priority_of : goal.returns-else-priority_of
returns-else-priority_of c =
    let t = lt-ltb _ _ c.if-e-lt8.true in
    (simp (t, ← c.priority_of.ensures, ← c.priority_of-then-e-lt8.ensures, le-ltb _ _ c.if-priority_of.false), omega arith)

pub returns-else-e-lt8 : goal.returns-else-e-lt8
returns-else-e-lt8 c = (simp (le-ltb _ _ c.if-e-lt8.false), omega arith)
