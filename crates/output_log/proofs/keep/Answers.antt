use Rattle.std.proofs.Common.{refl, arith, length-set}
use Rattle.output_log.proofs.Laws.{keep-more, keep_all, not-both}
use Rattle.output_log.proofs.keep.Goals as goal

pub returns-then-not-wanted : goal.returns-then-not-wanted
returns-then-not-wanted c = record { bytes = λ h. not-both c.args.wanted h c.if-not-wanted.true-raw; size = c.told-kept }

pub loop-i-init : goal.loop-i-init
loop-i-init c = (c.told-kept, refl)

pub loop-i-preserved : goal.loop-i-preserved
loop-i-preserved c =
    let l = c.loop-i in
    let s = c in (
      simp length-set l.invariant.0,
      keep-more s.args.mem.now l.kept l.i (omega (arith, l.invariant.0)) (omega (arith, s.told-mem)) l.invariant.1,
    )

pub returns : goal.returns
returns c =
    let l = c.loop-i in
    record { bytes = λ h. keep_all _ l.kept l.i l.invariant.0 (omega arith) l.invariant.1; size = l.invariant.0 }
