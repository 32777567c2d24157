-- `alu_probe::probe_alu` meets its contract. Assumes nothing.
use borrow.Author.Tests.{lt-ltb, le-ltb}
use Rattle.alu_probe.specs.Probe.{reply_of}
use Rattle.alu_probe.proofs.probe_alu.Goals as goal

pub returns-then-op-ge17 : goal.returns-then-op-ge17
unfolding reply_of
returns-then-op-ge17 c = simp (le-ltb _ _ c.if-op-ge17.true)

pub returns-then-byte-ge2 : goal.returns-then-byte-ge2
unfolding reply_of
returns-then-byte-ge2 c = simp (lt-ltb _ _ c.if-op-ge17.false, le-ltb _ _ c.if-byte-ge2.true)

pub returns : goal.returns
unfolding reply_of
returns c =
    let a = c in
    let e = a in
    simp (lt-ltb _ _ e.if-op-ge17.false, lt-ltb _ _ e.if-byte-ge2.false, a.alu-o.ensures, a.op_of.ensures)
