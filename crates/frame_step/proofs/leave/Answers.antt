use Rattle.frame_step.proofs.Laws.{took-leave}
use Rattle.frame_step.proofs.leave.Goals as goal

pub returns : goal.returns
returns c =
    let a = c.args in
    record {
      step =
          λ psw cex count k added log woken at fits.
          took-leave a.regs.now a.mem.now _ psw cex _ _ a.depth _ woken count k added log fits at (c.pull-f.ensures psw cex)
          c.pulled.ensures;
    }
