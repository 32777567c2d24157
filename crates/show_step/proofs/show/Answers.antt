use Rattle.std.proofs.Common.{◌/◌, ◌%◌, refl, ap, ◌∙◌, arith}
use Rattle.machine.specs.State.{moved}
use Rattle.stretch_registers.proofs.Laws.{handed}
use Rattle.show_step.proofs.Laws.{put_back, store-steps, str-effect}
use Rattle.show_step.proofs.show.Goals as goal

-- not taken
pub returns-in_default : goal.returns-in_default
returns-in_default c = let o = c.in_default.ensures in (put_back _ _, o.0, o.1)

-- taken
pub returns : goal.returns
returns c =
    let a = c.args in
    let (_, word, even, _) = c.requires.0 in
    let distance = handed 64 (a.w / 128 % 128) (omega arith) (omega arith) c.signed.ensures in
    store-steps a.regs.now _ a.mem.now _ a.log.now _ a.w a.count a.added _ _ _ _ word even c.in-Some.ensures
    (str-effect a.regs.now a.w c.requires.1 refl c.get-value.ensures c.get-base.ensures
    (c.offset_from-at.ensures ∙ ap (moved c.get-base.result) distance))
