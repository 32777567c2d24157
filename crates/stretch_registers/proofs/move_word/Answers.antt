use mathlib.Core.Path.{refl, sym, ◌∙◌}
use mathlib.Core.Logic.{inl, inr}
use native.Mathlib.Omega.{arith}
use Rattle.stretch_registers.proofs.Laws.{moves, moves-to-pc}
use Rattle.stretch_registers.proofs.move_word.Goals as goal

pub returns-then-byte : goal.returns-then-byte
returns-then-byte c = λ psw wb e. inl (refl, refl, refl, refl)

pub returns-then-dst-eq7 : goal.returns-then-dst-eq7
returns-then-dst-eq7 c =
    λ psw wb e.
    inr
    (moves-to-pc c.args.regs.now psw _ _ c.requires wb _ _ (sym c.if-byte.false ∙ e) c.if-dst-eq7.true (omega arith)
    c.move_to_pc.ensures)

pub returns : goal.returns
returns c =
    λ psw wb e.
    inr
    (moves c.args.regs.now psw _ _ c.requires c.args.byte wb _ _ e (omega arith) c.low_bits.ensures.0
    c.with_low-r.ensures)
