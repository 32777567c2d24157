use mathlib.Core.Path.{refl}
use native.Mathlib.Omega.{arith}
use native.Mathlib.Nat.{add-zero}
use Rattle.srec_load.proofs.Laws.{store-more, store-end}
use Rattle.srec_load.proofs.line.store_data.Goals as goal

pub loop-k-preserved : goal.loop-k-preserved
loop-k-preserved c =
    let p = c.loop-k in
    store-more c.args.memory.now p.memory c.args.line.now c.args.a c.args.n p.k
    c.requires.1 (omega arith) p.invariant _ c.byte.ensures

pub returns : goal.returns
returns c =
    let p = c.loop-k in
    store-end c.args.memory.now p.memory c.args.line.now c.args.a c.args.n p.k
    c.requires.1 (omega arith) p.invariant

pub loop-k-init : goal.loop-k-init
loop-k-init c = rw add-zero refl
