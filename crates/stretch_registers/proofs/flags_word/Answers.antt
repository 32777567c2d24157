use mathlib.Core.Path.{refl, ◌≡◌}
use mathlib.Core.Logic.{inl, inr}
use native.Mathlib.Omega.{arith}
use Prim.Native.Nat.{◌%◌, ◌/◌}
use borrow.Author.Tests.{lt-ltb, le-ltb}
use Rattle.flags.specs.Kept.{held_in}
use Rattle.stretch_registers.proofs.Laws.{sets-flags, clears-flags}
use Rattle.stretch_registers.proofs.flags_word.Goals as goal

pub returns-then-w-eq1 : goal.returns-then-w-eq1
returns-then-w-eq1 c = λ regs psw cex past. inl (refl, refl, refl, refl)

pub set-requires : goal.set-requires
set-requires c =
    (omega arith, omega (arith, c.if-w-eq1.false))

pub clear-requires : goal.clear-requires
clear-requires c =
    (omega arith, omega (arith, c.if-w-eq1.false))

pub returns-then-w-lt19936 : goal.returns-then-w-lt19936
returns-then-w-lt19936 c =
    let a = c.args in
    let w = a.w in
    let slp : w % 32 / 8 % 2 ≡ 0 = omega (arith, c.if-w-eq1.false) in
    λ l psw x past.
    rw (
      le-ltb w 0x4D88 (omega (arith, c.requires.0)),
      le-ltb w 0x4DA0 (omega (arith, c.requires.0)),
      le-ltb w 0x4DB0 (omega (arith, c.requires.0)),
      le-ltb w 0x4DC0 c.requires.0,
      lt-ltb w 0x4DE0 c.if-w-lt19936.true,
    )
    (inr
    (sets-flags l (held_in psw a.kept.now) x a.pc (w % 32) past (omega arith) slp
    (c.set.ensures psw)))

pub returns : goal.returns
returns c =
    let a = c.args in
    let w = a.w in
    let slp : w % 32 / 8 % 2 ≡ 0 = omega (arith, c.if-w-eq1.false) in
    λ l psw x past.
    rw (
      le-ltb w 0x4D88 (omega (arith, c.requires.0)),
      le-ltb w 0x4DA0 (omega (arith, c.requires.0)),
      le-ltb w 0x4DB0 (omega (arith, c.requires.0)),
      le-ltb w 0x4DC0 c.requires.0,
      le-ltb w 0x4DE0 c.if-w-lt19936.false,
    )
    (inr
    (clears-flags l (held_in psw a.kept.now) x a.pc (w % 32) past (omega arith) slp
    (c.clear.ensures psw)))
