use Rattle.stretch.specs.Stretch.{Awake, Walked}
use Rattle.flags.specs.Kept.{held_in}
use Rattle.stretch_registers.specs.Effected.{left_alone}
use Rattle.stretch_formats.specs.Ready.{constants}
use Rattle.std.proofs.Common.{◌≡◌, ◌-◌, ◌%◌, ◌<◌, ◌≤◌, ◌⊎◌, set}
use Rattle.stretch.proofs.take_steps.Given as goal

abbrev pub invariant-loop-left : goal.invariant-loop-left
invariant-loop-left l =
    record {
      within : l.left ≤ l.n;
      table : l.k ≡ constants;
      awake : Awake l.regs (held_in l.psw l.kept);
      even : l.pc % 2 ≡ 0;
      low : l.pc < left_alone;
      few : (l.x % 64 ≡ 0) ⊎ (l.n ≤ 1);
      walked : Walked l.free l.initial.regs (held_in l.initial.psw l.initial.kept) l.cex l.initial.mem
          (set l.regs 7 (l.pc % 65536)) (held_in l.psw l.kept) l.x l.mem
          (l.n - l.left);
      shut : l.cex % 64 ≡ 0 → l.x % 64 ≡ 0;
    }

abbrev pub decreases-loop-left : goal.decreases-loop-left
decreases-loop-left l = l.left
