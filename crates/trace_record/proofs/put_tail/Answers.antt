use Rattle.std.proofs.Common.{◌+◌, ap, ◌∙◌}
use Rattle.little_endian.specs.Bytes.{two_put}
use Rattle.trace_record.proofs.Laws.{tail-bytes}
use Rattle.trace_record.proofs.put_tail.Goals as goal

pub returns : goal.returns
returns c =
    let a = c.args in
    let i = a.i in
    c.put_two-4.ensures
    ∙ ap (λ l. two_put l (i + 6) a.b.psw)
    (c.put_two-3.ensures
    ∙ ap (λ l. two_put l (i + 4) a.b.sp) (c.put_two-2.ensures ∙ ap (λ l. two_put l (i + 2) a.b.pc) c.put_two.ensures))
    ∙ tail-bytes a.trace.now i a.value a.b.pc a.b.sp a.b.psw
