-- `frame_step::trap` meets its contract: not taken, all is as it was; taken, it is the step (Laws, took-trap). Assumes nothing.
use Rattle.std.proofs.Common.{refl}
use Rattle.frame_step.proofs.Laws.{took-trap}
use Rattle.frame_step.proofs.trap.Goals as goal

pub returns : goal.returns
returns c =
    let a = c.args in
    let (room, word, svc, even, shut, woken) = c.requires in
    λ count k added log fits.
    took-trap a.regs.now a.mem.now _ a.psw a.cex _ 0 a.depth _ woken count k added log fits _ a.w _ _ _ _ word svc even
    shut refl c.priority_of.ensures c.current_priority.ensures.0 c.if-priority_of-current_priority.false
    refl c.enter-p.ensures.core c.enter-p.ensures.memory c.pushed.ensures
