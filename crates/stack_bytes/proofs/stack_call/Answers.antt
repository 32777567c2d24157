-- The tests of refusal give what the sum asks for. Assumes nothing.
use mathlib.Core.Path.{sym, ◌∙◌}
use native.Mathlib.Omega.{arith}
use Rattle.stack_bytes.proofs.Laws.{fits, sum-bounded, reply-refused, reply-bytes}
use Rattle.stack_bytes.proofs.stack_call.Goals as goal

pub returns-then-refused : goal.returns-then-refused
returns-then-refused c =
    let a = c.args in
    reply-refused a.vectors.now a.devices a.uses.now a.p _ c.refused.ensures c.if-refused.true

pub sum_above-requires : goal.sum_above-requires
sum_above-requires c =
    let a = c.args in
    (fits a.vectors.now a.uses.now a.p (sym c.refused.ensures ∙ c.if-refused.false)).uses-fit

pub invariant_of-h : goal.invariant_of-h
invariant_of-h c =
    let a = c.args in
    let f = fits a.vectors.now a.uses.now a.p (sym c.refused.ensures ∙ c.if-refused.false) in
    record { vectors_len = f.vectors-length; uses_len = f.uses-length }

pub overflow_mul-result : goal.overflow_mul-result
overflow_mul-result c =
    let a = c.args in
    let f = fits a.vectors.now a.uses.now a.p (sym c.refused.ensures ∙ c.if-refused.false) in
    let x = sum-bounded a.vectors.now a.devices a.uses.now f.uses-fit 7 a.p _ c.sum_above.ensures in
    omega arith

pub returns : goal.returns
returns c =
    let a = c.args in
    reply-bytes a.vectors.now a.devices a.uses.now a.p _ _ c.refused.ensures c.if-refused.false
    c.sum_above.ensures
