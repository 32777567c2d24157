use Rattle.trace_record.proofs.Laws.{whole-bytes}
use Prim.Native.Nat.{◌*◌}
use Rattle.trace_record.proofs.put_record.Goals as goal

pub returns : goal.returns
returns c =
    let at-put-head = c in
    let at-start = c in
    let a = at-start.args in
    whole-bytes a.trace.now _ _ (16 * a.k) a.b a.kind a.x.number a.x.address a.x.value
    at-put-head.put_head.ensures
    c.put_tail.ensures
