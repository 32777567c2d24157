-- `execute::swap` meets its contract. Assumes nothing.
use Rattle.machine.specs.Effect.{effect_of}
use Rattle.execute.proofs.Laws.{swapping}
use Rattle.execute.proofs.swap.Goals as goal

pub returns : goal.returns
unfolding effect_of
returns c ignored =
    let s = c in
    let g = c in
    let d = c in
    let t = c in
    let u = c in
    let a = s.args in
    swapping a.regs.now _ _ a.psw a.cex _ _ a.src a.dst g.get-s.ensures d.get.ensures t.put-x.ensures
    u.put.ensures c.asks_nothing.ensures
