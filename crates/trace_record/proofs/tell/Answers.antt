-- Act by act, as `told_of` has it: in each arm what `telling` answers is what the definition gives for that constructor, and of a
-- store the value is the operand that `operand` answers. Assumes nothing.
use Rattle.trace_record.specs.Written.{told, told_of}
use Rattle.trace_record.proofs.Laws.{told-entry}
use mathlib.Core.Path.{sym, ap, ◌∙◌}
use Rattle.trace_record.proofs.tell.Goals as goal

pub returns-in-Pull : goal.returns-in-Pull
returns-in-Pull c = let a = c.args in c.telling.ensures ∙ ap (λ x. told_of x a.seen a.pc a.psw) (sym
    c.in-Pull.is)

pub returns-in-Chain : goal.returns-in-Chain
returns-in-Chain c =
    let a = c.args in c.telling-in-Chain.ensures ∙ told-entry a.a c.in-Chain.v a.seen a.pc a.psw c.in-Chain.is

pub returns-in-Loads : goal.returns-in-Loads
returns-in-Loads c = let a = c.args in c.telling-in-Loads.ensures ∙ ap (λ x. told_of x a.seen a.pc a.psw)
    (sym c.in-Loads.is)

pub returns-in-Stores : goal.returns-in-Stores
returns-in-Stores c =
    let at-start = c in
    let a = at-start.args in c.telling-in-Stores.ensures ∙ ap (told _ _)
    c.operand.ensures ∙ ap (λ x. told_of x a.seen a.pc a.psw) (sym c.in-Stores.is)
