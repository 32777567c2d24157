use mathlib.Core.Path.{◌≡◌}
use Prim.Native.Nat.{◌-◌}
use lib.ListN.{length, drop}
use Rattle.asm_text.specs.Text.{word, same}
use Rattle.asm_text.proofs.same_word.Given as goal

abbrev pub invariant-loop-p : goal.invariant-loop-p
invariant-loop-p l = same (word (drop l.i l.t)) (word (drop l.j l.s)) ≡ same (word (drop l.p l.t)) (word (drop l.q l.s))

abbrev pub decreases-loop-p : goal.decreases-loop-p
decreases-loop-p l = length l.t - l.i
