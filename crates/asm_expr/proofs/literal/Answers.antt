use native.Mathlib.Omega.{arith}
use Rattle.std.specs.Prelude.{Err}
use Rattle.asm_value.specs.declared.Lack.TheVariants.{Unknown}
use Rattle.asm_expr.proofs.Laws.{digits-none, digits-some}
use Rattle.asm_expr.proofs.literal.Goals as goal

pub returns-then-digits-at : goal.returns-then-digits-at
returns-then-digits-at c =
    let a = c.args in
    digits-none (λ _. Err Unknown) a.negative a.base (omega arith) a.s.now a.at c.read_digits-digits.result.next
    c.read_digits-digits.ensures.next_value c.if-digits-at.true

pub returns : goal.returns
returns c =
    let a = c.args in
    let d = c.read_digits-digits in
    digits-some (λ _. Err Unknown) a.negative a.base (omega arith) a.s.now a.at d.result.value d.result.next c.number-value.result
    d.ensures.next_value c.if-digits-at.false d.ensures.size_value c.number-value.ensures
