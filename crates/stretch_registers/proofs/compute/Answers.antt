use mathlib.Core.Path.{refl, ap}
use mathlib.Core.Logic.{inl, inr}
use native.Mathlib.Omega.{arith}
use lib.ListN.{set}
use Prim.Native.Nat.{◌%◌}
use Rattle.stretch_registers.proofs.compute.Goals as goal

pub returns-then-dst-eq7 : goal.returns-then-dst-eq7
returns-then-dst-eq7 c = λ psw. inl (refl, refl, refl)

pub returns : goal.returns
returns c =
    let a = c.args in
    λ psw.
    inr (omega arith, refl, ap (set a.regs.now (a.w % 8)) (c.work-v.ensures.value psw), c.work-v.ensures.psw psw)
