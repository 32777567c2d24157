-- Seven kinds, one after the other: each changes its own sixteen bytes alone, so that in the end every kind has what `find_after`
-- gives. Assumes nothing.
use Rattle.soundness.proofs.Blocks.{joined-blocks}
use Rattle.findings.proofs.Laws.{stage-start, kind-law}
use Rattle.findings.specs.Told.{told_after}
use Rattle.open_frames.specs.Open.{handler_of}
use Rattle.soundness.specs.Findings.{faulted, unopened, trapped, changed, slept, device, foreign}
use Rattle.std.proofs.Common.{sym, refl, ◌∙◌, arith}
use Rattle.findings.proofs.tell_step.Goals as goal

pub returns : goal.returns
returns c f z e s q =
    let n = c.args.start in
    let k = c.args.step in
    let h = handler_of c.args.h in
    let g0 = stage-start n f _ e in
    let g1 = kind-law n _ _ _ g0 1 (omega arith) (f faulted) faulted k z h q refl _ s.is_faulted c.tell.ensures in
    let g2 = kind-law n _ _ _ g1 2 (omega arith) (f unopened) unopened k z h q refl _ s.is_unopened c.tell-2.ensures in
    let g3 = kind-law n _ _ _ g2 3 (omega arith) (f trapped) trapped k z h q refl _ s.is_trapped c.tell-3.ensures in
    let g4 = kind-law n _ _ _ g3 5 (omega arith) (f changed) changed k z h q refl _ s.is_changed c.tell-4.ensures in
    let g5 = kind-law n _ _ _ g4 6 (omega arith) (f slept) slept k z h q refl _ s.is_slept c.tell-5.ensures in
    let g6 = kind-law n _ _ _ g5 7 (omega arith) (f device) device k z h q refl _ s.is_device c.tell-6.ensures in
    let g7 = kind-law n _ _ _ g6 8 (omega arith) (f foreign) foreign k z h q refl _ s.is_foreign c.tell-7.ensures in
    g7.is ∙ sym (joined-blocks n (told_after k z f))
