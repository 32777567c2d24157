use Rattle.std.proofs.Common.{◌≡◌, ◌+◌, ◌-◌, ◌≤◌, cond}
use Rattle.flags.specs.Kept.{held_in}
use Rattle.stretch_formats.specs.Ready.{constants}
use Rattle.stretch.specs.Stretch.{Awake, FreeOf, Goes}
use Rattle.stretch.proofs.walk.Given as goal

abbrev pub invariant-loop-t : goal.invariant-loop-t
invariant-loop-t l =
    record {
      within : l.t.left ≤ l.n;
      table : l.k ≡ constants;
      told : FreeOf l.free l.lines;
      awake : Awake l.regs (held_in l.p l.kept);
      goes : Goes l.lines l.initial.regs l.psw l.cex l.initial.mem l.regs (held_in l.p l.kept) l.t.cex l.mem (l.n - l.t.left);
    }

abbrev pub decreases-loop-t : goal.decreases-loop-t
decreases-loop-t l = l.t.left + cond l.t.more 1 0
