-- The invariant: the dearest of the devices passed. Assumes nothing.
use Rattle.std.proofs.Common.{◌≡◌, ap, ◌∙◌, arith}
use Rattle.stack_need.specs.Need.{dearest}
use Rattle.stack_bytes.proofs.Laws.{dearest-none, dearest-next}
use Rattle.stack_bytes.proofs.dearest_of.Goals as goal

pub loop-d-init : goal.loop-d-init
loop-d-init c = let h = c.args.h in dearest-none h.vectors.now h.devices h.uses.now c.args.level

pub loop-d-preserved : goal.loop-d-preserved
loop-d-preserved c =
    let h = c.args.h in
    dearest-next h.vectors.now h.devices h.uses.now c.loop-d.d c.args.level c.loop-d.most _ c.loop-d.invariant
    c.with_device-most.ensures

pub returns : goal.returns
returns c =
    let h = c.args.h in
    let e : c.loop-d.d ≡ 8 = omega arith in
    c.loop-d.invariant ∙ ap (λ n. dearest h.vectors.now h.devices h.uses.now n c.args.level) e
