use Rattle.stretch_formats.proofs.Laws.{means, decode-immediate, decode-swap, decode-single, within}
use Prim.Native.Nat.{◌/◌, ◌%◌}
use mathlib.Core.Logic.{inl}
use mathlib.Core.Path.{refl}
use Rattle.flags.specs.Kept.{held_in}
use Rattle.stretch_formats.proofs.far_word.Goals as goal

pub returns-then-w-lt16384 : goal.returns-then-w-lt16384
returns-then-w-lt16384 c = λ free psw. c.jump_word.ensures free _ psw

pub returns-then-w-ge32768 : goal.returns-then-w-ge32768
returns-then-w-ge32768 c = λ free psw. c.relative_word.ensures free _ _

pub returns-then-w-ge24576 : goal.returns-then-w-ge24576
returns-then-w-ge24576 c =
    let a = c.args in
    let x = a.cex.now in
    λ free psw.
    let p = held_in psw a.kept.now in
    means free _ a.w a.regs.now a.mem.now _ p x p x _
    (decode-immediate a.w c.if-w-ge24576.true c.if-w-ge32768.false) (c.immediate_word.ensures p x)

pub returns-then-w : goal.returns-then-w
returns-then-w c = λ free psw. inl (refl, (refl, refl, refl, refl))

pub returns-then-w-lt19712 : goal.returns-then-w-lt19712
returns-then-w-lt19712 c =
    let a = c.args in
    let x = a.cex.now in
    λ free psw.
    let p = held_in psw a.kept.now in
    means free _ a.w a.regs.now a.mem.now _ p x p x _
    (decode-swap a.w (within a.w c.if-w.false).0 c.if-w-lt19712.true) (c.swap_word.ensures p x (a.w / 64 % 2))

pub returns : goal.returns
returns c =
    let a = c.args in
    let x = a.cex.now in
    λ free psw.
    let p = held_in psw a.kept.now in
    means free _ a.w a.regs.now a.mem.now _ p x _ x _
    (decode-single a.w c.if-w-lt19712.false (within a.w c.if-w.false).1) (c.single_word.ensures psw x)
