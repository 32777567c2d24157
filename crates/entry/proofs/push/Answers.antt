use Rattle.std.proofs.Common.{◌≡◌, ◌+◌, ◌%◌, arith}
use Rattle.machine.specs.State.{down}
use Rattle.entry.proofs.Laws.{push-law}
use Rattle.entry.proofs.push.Goals as goal

pub returns : goal.returns
returns c =
    let a = c.args in
    let e : (a.sp + 65534) % 65536 ≡ down a.sp 2 = omega arith in
    (e, push-law a.mem.now _ a.sp _ _ a.v e c.word_of.ensures.0 c.write_word.ensures)
