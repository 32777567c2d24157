use Prim.Native.Nat.{◌+◌, ◌*◌}
use mathlib.Core.Path.{◌≡◌}
use lib.ListN.{length, drop}
use lib.Seq.{sets}
use Rattle.srec.specs.Digits.{digits_of}
use Rattle.srec_write.proofs.put_bytes.Given as goal

abbrev pub invariant-loop-b : goal.invariant-loop-b
invariant-loop-b l = (l.next ≡ l.at + 2 * l.b-index) × (length l.text ≡ length l.initial.text)
    × (sets l.text l.next (digits_of (drop l.b-index l.bytes)) ≡ sets l.initial.text l.at (digits_of l.bytes))
