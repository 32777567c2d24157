-- The invariant: the sum of the levels passed. Assumes nothing.
use Rattle.std.proofs.Common.{◌≡◌, ◌+◌, ◌-◌, cond, ltb, ap, ◌∙◌, arith}
use Rattle.stack_need.specs.Need.{dearest, sum_above}
use Rattle.stack_bytes.proofs.Laws.{sum-none, sum-next, sum-bounded, level-bounded}
use Rattle.stack_bytes.proofs.sum_above.Goals as goal

pub loop-level-init : goal.loop-level-init
loop-level-init c = let h = c.args.h in sum-none h.vectors.now h.devices h.uses.now c.args.p

pub overflow_add-sum : goal.overflow_add-sum
overflow_add-sum c =
    let h = c.args.h in
    let x = sum-bounded h.vectors.now h.devices h.uses.now c.requires (c.loop-level.level - 1) c.args.p _ c.loop-level.invariant in
    let y = level-bounded h.vectors.now h.devices h.uses.now c.requires _ c.args.p _ c.level_need-sum.ensures in
    omega arith

pub loop-level-preserved : goal.loop-level-preserved
loop-level-preserved c =
    let h = c.args.h in
    let l = c.loop-level.level in
    let e : l ≡ l - 1 + 1 = omega arith in
    let f : l - 1 + 1 ≡ l + 1 - 1 = omega arith in
    let x =
    c.level_need-sum.ensures ∙ ap (λ n. cond (ltb c.args.p n) (dearest h.vectors.now h.devices h.uses.now 8 n) 0) e in
    sum-next h.vectors.now h.devices h.uses.now (l - 1) c.args.p c.loop-level.sum _ c.loop-level.invariant x
    ∙ ap (λ n. sum_above h.vectors.now h.devices h.uses.now n c.args.p) f

pub returns : goal.returns
returns c =
    let h = c.args.h in
    let e : c.loop-level.level - 1 ≡ 7 = omega arith in
    c.loop-level.invariant ∙ ap (λ n. sum_above h.vectors.now h.devices h.uses.now n c.args.p) e
