use mathlib.Core.Path.{refl}
use mathlib.Core.Logic.{inl, inr}
use native.Mathlib.Omega.{arith}
use Rattle.stretch_registers.proofs.Laws.{moves-byte}
use Rattle.stretch_registers.proofs.immediate_word.Goals as goal

pub returns-then-dst-eq7 : goal.returns-then-dst-eq7
returns-then-dst-eq7 c = λ psw cex. inl (refl, refl, refl, refl)

pub returns : goal.returns
returns c =
    λ psw cex.
    inr
    (moves-byte c.args.regs.now psw cex _ c.requires _ _ _ (omega arith) c.immediate-v.ensures)
