-- The text stands whole at the start of the buffer. Assumes nothing.
use mathlib.Core.Path.{◌≡◌, ap, ◌∙◌}
use mathlib.Core.List.{List}
use Prim.Native.Nat.{ℕ, ◌+◌, ◌≤◌}
use native.Mathlib.Omega.{arith}
use lib.ListN.{length, take, drop}
use lib.Seq.{sets, sets-eq, take-append_seam}
use borrow.Author.Tests.{le-ltb}
use Rattle.asm_print.specs.Print.{text_at}
use Rattle.asm_print.proofs.Lengths.{text-length}
use Rattle.asm_printer.specs.Call.{text_call_of, TextStands}

-- what is stored at the start and fits is read there
stored-first : (t l : List ℕ) → length l ≤ length t → take (length l) (sets t 0 l) ≡ l
stored-first t l h = ap (take (length l)) (sets-eq l t 0 (omega arith)) ∙ take-append_seam l (drop (0 + length l) t)

pub text-stands : TextStands
unfolding text_call_of
text-stands w p t h =
    let k = text-length p w in
    let e = le-ltb (length t) 24 h in
    (rw e, rw e (stored-first t (text_at p w) (omega arith)))
