use mathlib.Core.Bool.{not, ◌||◌}
use mathlib.Core.Logic.{inl, inr}
use mathlib.Core.Path.{refl}
use mathlib.Mathlib.Data.Bool.Basic.{or-eq-false-eq-eq-false-and-eq-false}
use Prim.Native.Nat.{◌/◌, ◌%◌}
use native.Mathlib.Omega.{arith}
use lib.Dec.{eqb, ltb}
use borrow.Author.Tests.{eqb-true, ltb-false, not-false}
use Rattle.stretch_registers.proofs.priority_word.Goals as goal

pub returns-then-w-free : goal.returns-then-w-free
returns-then-w-free c = inl (refl, refl)

pub returns : goal.returns
returns c =
    let a = c.args in
    let own = c.current_priority.result in
    let other = not (eqb (a.w / 8) 0x9B0) in
    let higher = ltb own (a.w % 8) in
    let (first, level) = (or-eq-false-eq-eq-false-and-eq-false (other || not a.free) higher).0 c.if-w-free.false in
    let (kind, none) = (or-eq-false-eq-eq-false-and-eq-false other (not a.free)).0 first in
    inr (
      not-false _ none,
      eqb-true _ _ (not-false _ kind),
      omega (arith, ltb-false own (a.w % 8) level, c.current_priority.ensures),
      refl,
      c.priority_put.ensures,
    )
