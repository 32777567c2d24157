use Prim.Native.Nat.{ℕ, ◌/◌, ◌%◌, ◌+◌, ◌-◌}
use native.Mathlib.Omega.{arith}
use mathlib.Core.Path.{◌≡◌, sym, ap, ◌∙◌}
use mir.Syntax.{w16}
use mir.Val.{to_z}
use Rattle.word.specs.Offset.{signed_of}
use Rattle.word.proofs.Offset.{plus, minus}
use Rattle.stretch_registers.proofs.offset.Goals as goal

forwards : (w row : ℕ) → w / 512 ≡ row → row % 2 ≡ 0 → w % 512 ≡ w % 1024
forwards w row e h = omega arith

backwards : (w row : ℕ) → w / 512 ≡ row → (row % 2 ≡ 0 → ⊥) → w % 1024 ≡ w % 512 + 512
backwards w row e h = omega arith

turned : (n : ℕ) → 511 - n ≡ 512 + 512 - 1 - (n + 512)
turned n = omega arith

pub returns-then-row-eq0 : goal.returns-then-row-eq0
returns-then-row-eq0 c =
    let w = c.args.w in
    plus 512 (w % 512) (omega arith) (omega arith) ∙ ap (signed_of 512) (forwards w _ c.requires c.if-row-eq0.true)

pub returns : goal.returns
returns c =
    let w = c.args.w in
    ap (λ (n : ℕ). to_z w16 (65535 - n)) (turned (w % 512))
    ∙ minus 512 (w % 512 + 512) (omega arith) (omega arith) (omega arith)
    ∙ ap (signed_of 512) (sym (backwards w _ c.requires c.if-row-eq0.false))
