-- Bits 6 to 3 name the operation, and its width where it has one; each arm is one operation on one register, and the words of
-- no arm are left alone. Assumes nothing.
use mathlib.Core.Path.{refl}
use mathlib.Core.Logic.{inl}
use native.Mathlib.Omega.{arith}
use Rattle.machine.specs.Effect.{unary_op}
use Rattle.alu.specs.declared.Op.TheVariants as op
use Rattle.stretch_registers.proofs.Laws.{unary-tried, swpb-tried, sxt-tried}
use Rattle.stretch_registers.proofs.single_word.Goals as goal

pub returns-in-0 : goal.returns-in-0
unfolding unary_op
returns-in-0 c =
    λ psw cex. unary-tried c.args.regs.now _ cex _ c.requires _ 0 0 op.Sra c.in-0.is (omega arith) (omega arith) refl
    (c.compute.ensures psw)

pub returns-in-1 : goal.returns-in-1
unfolding unary_op
returns-in-1 c =
    λ psw cex. unary-tried c.args.regs.now _ cex _ c.requires _ 0 1 op.Rrc c.in-1.is (omega arith) (omega arith) refl
    (c.compute-in-1.ensures psw)

pub returns-in-2 : goal.returns-in-2
unfolding unary_op
returns-in-2 c =
    λ psw cex. unary-tried c.args.regs.now _ cex _ c.requires _ 0 2 op.Comp c.in-2.is (omega arith) (omega arith) refl
    (c.compute-in-2.ensures psw)

pub returns-in-3 : goal.returns-in-3
returns-in-3 c =
    λ psw cex. swpb-tried c.args.regs.now _ cex _ c.requires _ c.in-3.is (c.compute-in-3.ensures psw)

pub returns-in-4 : goal.returns-in-4
returns-in-4 c =
    λ psw cex. sxt-tried c.args.regs.now _ cex _ c.requires _ c.in-4.is (c.compute-in-4.ensures psw)

pub returns-in-8 : goal.returns-in-8
unfolding unary_op
returns-in-8 c =
    λ psw cex. unary-tried c.args.regs.now _ cex _ c.requires _ 1 0 op.Sra c.in-8.is (omega arith) (omega arith) refl
    (c.compute-in-8.ensures psw)

pub returns-in-9 : goal.returns-in-9
unfolding unary_op
returns-in-9 c =
    λ psw cex. unary-tried c.args.regs.now _ cex _ c.requires _ 1 1 op.Rrc c.in-9.is (omega arith) (omega arith) refl
    (c.compute-in-9.ensures psw)

pub returns-in-10 : goal.returns-in-10
unfolding unary_op
returns-in-10 c =
    λ psw cex. unary-tried c.args.regs.now _ cex _ c.requires _ 1 2 op.Comp c.in-10.is (omega arith) (omega arith) refl
    (c.compute-in-10.ensures psw)

pub returns-in_default : goal.returns-in_default
returns-in_default c = λ psw cex. inl (refl, refl, refl, refl)
