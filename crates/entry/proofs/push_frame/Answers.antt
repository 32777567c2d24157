use Rattle.machine.specs.State.{core_of}
use Rattle.entry.proofs.Laws.{frame-law}
use Rattle.entry.proofs.push_frame.Goals as goal

pub returns : goal.returns
returns c =
    let at-start = c in
    let at-push3 = c in
    let b = c in
    let at_push = c in
    let a = at-start.args in
    let p₁ = at_push.push-s1.ensures in
    let p₂ = b.push-s2.ensures in
    let p₃ = at-push3.push-s3.ensures in
    let p₄ = c.push.ensures in
    frame-law (core_of a.regs.now a.psw a.cex) a.mem.now _ _ _ _ _ _ _ _
    p₁.0 p₁.1 p₂.0 p₂.1 p₃.0 p₃.1 p₄.0 p₄.1
