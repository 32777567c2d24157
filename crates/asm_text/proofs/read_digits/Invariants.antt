use lib.ListN.{length, drop}
use Prim.Native.Nat.{◌-◌, ◌≤◌, ◌^◌}
use Rattle.asm_text.proofs.Laws.{sat}
use Rattle.asm_text.specs.Text.{after, digit?}
use mathlib.Core.Path.{◌≡◌}
use Rattle.asm_text.proofs.read_digits.Given as goal

abbrev pub invariant-loop-d : goal.invariant-loop-d
invariant-loop-d l = (l.value ≤ 2 ^ 32) × (sat l.base l.value (drop l.next l.s) ≡ sat l.base 0 (drop l.at l.s)) ×
    (after (digit? l.base) l.s l.next ≡ after (digit? l.base) l.s l.at)

abbrev pub decreases-loop-d : goal.decreases-loop-d
decreases-loop-d l = length l.s - l.next
