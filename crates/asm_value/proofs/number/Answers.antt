use Rattle.asm_value.specs.Value.{fitted}
use mathlib.Core.Path.{ap, ◌∙◌}
use native.Mathlib.Omega.{arith}
use mir.Syntax.{w64}
use mir.ValLaws.{to_z_pos}
use Rattle.asm_value.proofs.Signed.{minus-fits, sized}
use Rattle.asm_value.proofs.number.Goals as goal

pub overflow_sub-z : goal.overflow_sub-z
overflow_sub-z c = rw (to_z_pos w64 c.args.size (omega arith)) (minus-fits c.args.size (omega arith))

pub returns-then-negative : goal.returns-then-negative
returns-then-negative c = c.fit.ensures ∙ ap fitted (sized c.args.size (omega arith)) ∙ rw c.if-negative.true

pub returns : goal.returns
returns c = c.fit-2.ensures ∙ rw (to_z_pos w64 c.args.size (omega arith), c.if-negative.false)
