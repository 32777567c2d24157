use Rattle.std.proofs.Common.{refl}
use Rattle.show_step.proofs.Laws.{put_back, store-steps, st-effect}
use Rattle.show_step.proofs.show_indexed.Goals as goal

-- not taken
pub returns-in_default : goal.returns-in_default
returns-in_default c = let o = c.in_default.ensures in (put_back _ _, o.0, o.1)

-- taken
pub returns : goal.returns
returns c =
    let a = c.args in
    let (_, word, even, _) = c.requires.0 in
    store-steps a.regs.now _ a.mem.now _ a.log.now _ a.w a.count a.added _ _ _ _ word even c.in-Some.ensures
    (st-effect a.regs.now a.w c.requires.1 c.requires.2 c.if-row-i.false refl
    c.get-value.ensures c.get.ensures c.index_of-x.ensures.to c.index_of-x.ensures.at)
