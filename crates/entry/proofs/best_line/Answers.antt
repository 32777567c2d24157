-- `entry::best_line` meets its contract. The invariant: `e` is the best of the lines from `d` on. Assumes nothing.
use Rattle.std.proofs.Common.{sym, ◌∙◌, arith}
use Rattle.entry.proofs.Laws.{best_none, best-turn}
use Rattle.entry.proofs.best_line.Goals as goal

pub loop-d-init : goal.loop-d-init
loop-d-init c = (omega arith, sym (best_none 8 _ _))

pub loop-d-preserved-then-waits : goal.loop-d-preserved-then-waits
loop-d-preserved-then-waits c =
    let a = c.args in
    let l = c.loop-d in
    let w = sym c.waits.ensures ∙ c.if-waits.true in
    let turn = best-turn l.d a.lines a.mem.now c.loop-d-test.true l.auto.d in
    (omega (arith, c.better_of-e.ensures.1), c.better_of-e.ensures.0 ∙ sym (rw (w, sym l.invariant.1) at turn))

pub loop-d-preserved : goal.loop-d-preserved
loop-d-preserved c =
    let a = c.args in
    let l = c.loop-d in
    let w = sym c.waits.ensures ∙ c.if-waits.false in
    let turn = best-turn l.d a.lines a.mem.now c.loop-d-test.true l.auto.d in
    (l.invariant.0, sym (rw (w, sym l.invariant.1) at turn))
