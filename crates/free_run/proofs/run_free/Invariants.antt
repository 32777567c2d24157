use Prim.Native.Nat.{◌+◌, ◌-◌, ◌/◌, ◌≤◌}
use mathlib.Core.Path.{◌≡◌}
use lib.ListN.{length}
use Rattle.stretch_memory.specs.Served.{running}
use Rattle.free_run.specs.Free.{Goes}
use Rattle.free_run.proofs.run_free.Given as goal

abbrev pub invariant-loop-left : goal.invariant-loop-left
invariant-loop-left l = record {
  some : l.left ≤ l.n;
  size : length l.mem ≡ length l.initial.mem;
  long : length l.log ≡ length l.initial.log;
  fits : l.t.added ≤ length l.initial.log / 8;
  opened : l.t.depth.opened + l.left ≤ 4294967295;
  goes :
      Goes l.n (running l.initial.regs l.psw l.cex l.lines l.count l.initial.mem) l.initial.t.depth l.added l.initial.log
      (running l.regs l.t.psw l.t.cex l.lines (l.count + (l.n - l.left)) l.mem) l.t.depth l.t.added l.log (l.n - l.left);
}

abbrev pub decreases-loop-left : goal.decreases-loop-left
decreases-loop-left l = l.left
