use Prim.Native.Nat.{◌%◌}
use native.Mathlib.Omega.{arith}
use mathlib.Core.Path.{refl, ap, ◌∙◌}
use Rattle.machine.specs.State.{moved, doubled}
use Rattle.word.specs.Offset.{signed_of}
use Rattle.stretch_registers.proofs.Laws.{links, near, handed}
use Rattle.stretch_registers.proofs.link_word.Goals as goal

pub target-requires : goal.target-requires
target-requires c =
    let w = c.args.w in
    rw (handed 4096 (w % 8192) (omega arith) (omega arith) c.signed.ensures) (near 4096 (w % 8192) (omega arith) (omega arith))

pub returns : goal.returns
returns c =
    let a = c.args in
    let w = a.w in
    let z = handed 4096 (w % 8192) (omega arith) (omega arith) c.signed.ensures in
    λ psw.
    links a.regs.now psw a.cex.now a.pc c.requires (signed_of 4096 (w % 8192))
    (c.target.ensures.0 ∙ ap (λ y. moved (a.pc % 65536) (doubled y)) z) c.target.ensures.1 refl
