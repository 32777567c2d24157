use native.Mathlib.Omega.{arith}
use Rattle.srec.proofs.Laws.{sum-here, sum-end}
use Rattle.srec_write.proofs.sum.Goals as goal

pub loop-b-preserved : goal.loop-b-preserved
loop-b-preserved c =
    let h = sum-here c.args.bytes.now c.loop-b.b-index (omega arith) in
    let b = c.type_inv.bytes c.loop-b.b-index in
    (omega arith, omega arith)

pub returns : goal.returns
returns c = let h = sum-end c.args.bytes.now c.loop-b.b-index (omega arith) in
    (omega arith, omega arith)

pub overflow_add-s : goal.overflow_add-s
overflow_add-s c = omega (arith, c.type_inv.bytes c.loop-b.b-index)
