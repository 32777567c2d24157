use native.Mathlib.Omega.{arith}
use Prim.Native.Nat.{ℕ, ◌/◌, ◌%◌}
use mathlib.Core.List.{List}
use mathlib.Core.Path.{refl, ap, ◌∙◌}
use lib.ListN.{get_or}
use Rattle.stretch_formats.proofs.Laws.{constant-at}
use Rattle.stretch_formats.proofs.operand.Goals as goal

pub returns-then-constant : goal.returns-then-constant
returns-then-constant c =
    let i = c.args.w / 8 % 8 in
    rw c.if-constant.true
    (ap (λ (k : List ℕ). get_or k i 0) c.requires ∙ constant-at i (omega arith))

pub returns : goal.returns
returns c = rw c.if-constant.false refl
