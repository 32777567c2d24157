-- `operands::allowed_flags` meets its contract. Assumes nothing.
use Rattle.std.proofs.Common.{sym, refl, ◌∙◌, rules, eq-eqb, ne_eqb}
use Rattle.operands.proofs.allowed_flags.Goals as goal

pub returns-then-current_priority-eq7 : goal.returns-then-current_priority-eq7
returns-then-current_priority-eq7 c = rw (eq-eqb _ _ (sym c.current_priority.ensures.0 ∙ c.if-current_priority-eq7.true)) (
  refl,
  search rules,
)

pub returns : goal.returns
returns c = rw (ne_eqb _ _ (λ h. c.if-current_priority-eq7.false (c.current_priority.ensures.0 ∙ h))) (refl, search rules)
