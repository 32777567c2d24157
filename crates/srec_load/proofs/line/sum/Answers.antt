use native.Mathlib.Omega.{arith}
use Rattle.srec.specs.Record.{bytes_of}
use Rattle.srec.proofs.Laws.{bytes-length, sum-here, sum-end}
use Rattle.srec_load.proofs.line.sum.Goals as goal

pub loop-k-preserved : goal.loop-k-preserved
loop-k-preserved c =
    let l = c.args.line.now in
    let n = bytes-length l _ c.requires in
    let h = sum-here (bytes_of l) c.loop-k.k (omega arith) in
    (omega arith, omega arith)

pub returns : goal.returns
returns c = let l = c.args.line.now in
    let n = bytes-length l _ c.requires in
    let h = sum-end (bytes_of l) c.loop-k.k (omega arith) in
    omega arith

pub loop-k-init : goal.loop-k-init
loop-k-init c = (omega arith, omega arith)
