use Prim.Native.Nat.{ℕ, ◌/◌, ◌%◌}
use native.Mathlib.Omega.{arith}
use mathlib.Core.Path.{◌≡◌, refl, sym, ap, ◌∙◌}
use Rattle.machine.specs.State.{moved, doubled}
use Rattle.machine.specs.Effect.{taken_of}
use Rattle.word.specs.Offset.{signed_of}
use Rattle.flags.specs.Kept.{held_in}
use Rattle.stretch_registers.proofs.Laws.{jumps, stays, near, handed}
use Rattle.stretch_formats.proofs.Laws.{branches}
use Rattle.stretch_formats.proofs.branch_row.Goals as goal

-- the number of the condition, from the row and from the word
number : (w row : ℕ) → w / 512 ≡ row → w / 1024 % 8 ≡ row / 2 % 8
number w row e = omega arith

pub returns-then-not-taken : goal.returns-then-not-taken
returns-then-not-taken c =
    let a = c.args in
    let (e, lo, hi) = c.requires in
    let w = a.w in
    let x = a.cex.now in
    λ free l m psw past.
    let p = held_in psw a.kept.now in
    let t = ap (λ (n : ℕ). taken_of n p) (number w a.row e) ∙ sym (c.taken.ensures psw) ∙ c.if-not-taken.true in
    branches w free a.row l m p x e lo hi (stays l p x a.pc past (signed_of 512 (w % 1024)) (w / 1024 % 8) t)

pub target-requires : goal.target-requires
target-requires c =
    let w = c.args.w in
    rw (handed 512 (w % 1024) (omega arith) (omega arith) c.offset.ensures) (near 512 (w % 1024) (omega arith) (omega arith))

pub returns : goal.returns
returns c =
    let a = c.args in
    let (e, lo, hi) = c.requires in
    let w = a.w in
    let x = a.cex.now in
    let z = handed 512 (w % 1024) (omega arith) (omega arith) c.offset.ensures in
    λ free l m psw past.
    let p = held_in psw a.kept.now in
    let t = ap (λ (n : ℕ). taken_of n p) (number w a.row e) ∙ sym (c.taken.ensures psw) ∙ c.if-not-taken.false in
    branches w free a.row l m p x e lo hi
    (jumps l p x a.pc past (signed_of 512 (w % 1024)) (c.target.ensures.0 ∙ ap (λ y. moved (a.pc % 65536) (doubled y)) z)
    c.target.ensures.1 refl (w / 1024 % 8) t)
