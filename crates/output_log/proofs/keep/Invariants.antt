use Rattle.std.proofs.Common.{◌≡◌, length, take}
use Rattle.output_log.proofs.keep.Given as goal

abbrev pub invariant-loop-i : goal.invariant-loop-i
invariant-loop-i l = (length l.kept ≡ 16) × (take l.i l.kept ≡ take l.i l.mem)
