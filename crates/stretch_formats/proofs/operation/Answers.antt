use Prim.Native.Nat.{ℕ, ◌/◌, ◌%◌}
use mathlib.Core.Bool.{Bool, cond}
use mathlib.Core.List.{List}
use mathlib.Core.Path.{◌≡◌, refl, sym, ap, ◌∙◌}
use lib.Dec.{eqb}
use lib.ListN.{get_or}
use Rattle.machine.specs.Effect.{constant_of}
use Rattle.stretch_formats.proofs.Laws.{computing, testing}
use Rattle.flags.specs.Kept.{held_in}
use Rattle.stretch_formats.proofs.operation.Goals as goal

-- the operand, by what the row says of it
module _ (w row : ℕ) (regs : List ℕ) where
  named : {constant : Bool} {v : ℕ} → constant ≡ eqb (row / 2 % 2) 1
      → v ≡ cond constant (constant_of (w / 8 % 8)) (get_or regs (w / 8 % 8) 0)
      → v ≡ cond (eqb (row / 2 % 2) 1) (constant_of (w / 8 % 8)) (get_or regs (w / 8 % 8) 0)
  named e h = h ∙ ap (λ (b : Bool). cond b (constant_of (w / 8 % 8)) (get_or regs (w / 8 % 8) 0)) e

pub returns-then-n : goal.returns-then-n
returns-then-n c =
    let a = c.args in
    let (past, _, e, lo, hi, k) = c.requires in
    λ free m psw cex.
    let p = held_in psw a.kept.now in
    testing a.w a.row e lo hi free a.regs.now m p cex a.pc past _ _ (sym c.binary-op.ensures) refl
    (named a.w a.row a.regs.now k c.operand-s.ensures) c.if-n.true refl (c.work.ensures.psw psw)

pub returns : goal.returns
returns c =
    let a = c.args in
    let (past, _, e, lo, hi, k) = c.requires in
    λ free m psw cex.
    let p = held_in psw a.kept.now in
    computing a.w a.row e lo hi free a.regs.now m p cex a.pc past _ _ (sym c.binary-op.ensures) refl
    (named a.w a.row a.regs.now k c.operand-s.ensures) c.if-n.false (c.compute.ensures psw)
