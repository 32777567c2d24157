-- `memory::store_device` meets its contract. Assumes nothing.
use Rattle.memory.proofs.Laws.{store-status, store-output, store-input}
use lib.ListN.{length-set}
use native.Mathlib.Omega.{arith}
use Rattle.memory.proofs.store_device.Goals as goal

pub returns-then-i-eq0 : goal.returns-then-i-eq0
returns-then-i-eq0 c =
    let s = c in
    store-status s.args.mem.now s.args.a.0 s.args.v _ s.requires c.if-i-eq0.true c.stored_status.ensures

pub returns-then-t-ne1 : goal.returns-then-t-ne1
returns-then-t-ne1 c =
    let s = c in
    store-output s.args.mem.now s.args.a.0 s.args.v _
    s.requires c.if-i-eq0.false c.if-t-ne1.true c.without_dba.ensures

pub returns-else-t-ne1 : goal.returns-else-t-ne1
returns-else-t-ne1 c =
    let s = c in
    store-input s.args.mem.now s.args.a.0 s.args.v s.requires c.if-i-eq0.false c.if-t-ne1.false
