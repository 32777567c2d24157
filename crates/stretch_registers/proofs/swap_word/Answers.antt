use mathlib.Core.Path.{refl}
use mathlib.Core.Logic.{inl, inr}
use mathlib.Mathlib.Data.Bool.Basic.{or-eq-false-eq-eq-false-and-eq-false}
use native.Mathlib.Omega.{arith}
use Prim.Native.Nat.{◌/◌, ◌%◌}
use lib.Dec.{eqb}
use borrow.Author.Tests.{eqb-false}
use Rattle.stretch_registers.proofs.Laws.{swaps}
use Rattle.stretch_registers.proofs.swap_word.Goals as goal

pub returns-then-src-dst : goal.returns-then-src-dst
returns-then-src-dst c = λ psw cex b. inl (refl, refl, refl, refl)

pub returns : goal.returns
returns c =
    let a = c.args in
    let src = a.w / 8 % 8 in
    let dst = a.w % 8 in
    let (hs, hd) = (or-eq-false-eq-eq-false-and-eq-false (eqb src 7) (eqb dst 7)).0 c.if-src-dst.false in
    λ psw cex b.
    inr
    (swaps a.regs.now psw cex _ c.requires src dst b (omega (arith, eqb-false src 7 hs)) (omega (arith, eqb-false dst 7 hd)))
