use Rattle.std.proofs.Common.{◌+◌, set, ap, ◌∙◌}
use Rattle.little_endian.specs.Bytes.{two_put}
use Rattle.trace_record.proofs.Laws.{head_bytes_lem}
use Rattle.trace_record.proofs.put_head.Goals as goal

pub returns : goal.returns
returns c =
    let a = c.args in
    let i = a.i in
    c.put_two.ensures
    ∙ ap (λ l. two_put (set (set l (i + 4) a.kind) (i + 5) a.x.number) (i + 6) a.x.address) c.put_four.ensures
    ∙ head_bytes_lem a.trace.now i a.step a.kind a.x.number a.x.address
