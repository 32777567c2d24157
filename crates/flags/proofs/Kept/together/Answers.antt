-- `flags::Kept::together` meets its contract. Assumes nothing.
use Prim.Native.Nat.{◌+◌, ◌*◌, ◌/◌, ◌%◌}
use mathlib.Core.Bool.{Bool}
use mathlib.Core.Path.{ap₂, ◌∙◌}
use native.Mathlib.Omega.{arith}
use Rattle.word.specs.Width.{bit}
use Rattle.word.proofs.Laws.{bit_le}
use Rattle.flags.proofs.Laws.{held-together}
use Rattle.flags.proofs.Kept.together.Goals as goal

pub overflow_mul-result-4 : goal.overflow_mul-result-4
overflow_mul-result-4 c = omega (arith, bit_le c.negative-n.result)

pub overflow_add-result-3 : goal.overflow_add-result-3
overflow_add-result-3 c = omega (arith, bit_le c.negative-n.result)

pub overflow_mul-result-5 : goal.overflow_mul-result-5
overflow_mul-result-5 c = omega (arith, bit_le c.zero-z.result)

pub overflow_add-result-4 : goal.overflow_add-result-4
overflow_add-result-4 c = omega (arith, bit_le c.negative-n.result, bit_le c.zero-z.result)

pub overflow_add-result-5 : goal.overflow_add-result-5
overflow_add-result-5 c = omega (arith, bit_le c.negative-n.result, bit_le c.zero-z.result)

pub returns : goal.returns
returns c =
    let s = c in
    let p = s.args.psw in
    let sum = s.args.self.now.sum in
    let over = s.args.self.now.over in
    ap₂ (λ (n z : Bool). p / 32 * 32 + over / 32768 % 2 * 16 + p / 8 % 2 * 8 + bit n * 4 + bit z * 2 + sum / 65536 % 2)
    c.negative-n.ensures c.zero-z.ensures
    ∙ held-together p s.args.self.now.last sum over
