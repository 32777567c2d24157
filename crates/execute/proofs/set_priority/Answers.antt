-- `execute::set_priority` meets its contract. Assumes nothing.
use Prim.Native.Nat.{◌<◌, ◌≤◌}
use native.Mathlib.Omega.{arith}
use borrow.Author.Tests.{lt-ltb, le-ltb}
use Rattle.word.specs.Psw.{current}
use Rattle.machine.specs.Effect.{effect_of}
use Rattle.execute.proofs.set_priority.Goals as goal

pub returns-then-current_priority-l : goal.returns-then-current_priority-l
unfolding effect_of
returns-then-current_priority-l c =
    let a = c.args in
    let up : current a.psw < a.level = omega arith in
    λ regs. rw (lt-ltb _ _ up)

pub returns : goal.returns
unfolding effect_of
returns c =
    let a = c.args in
    let down : a.level ≤ current a.psw = omega arith in
    let n = c.asks_nothing.ensures in
    λ regs. simp (le-ltb _ _ down, n.0, n.1, n.2, c.priority_put.ensures)
