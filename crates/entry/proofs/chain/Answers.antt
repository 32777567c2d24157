use Rattle.std.proofs.Common.{◌∙◌}
use Rattle.machine.specs.State.{core_of, sp}
use Rattle.machine.specs.Entry.{vectored}
use Rattle.entry.proofs.Laws.{vectored-law}
use Rattle.entry.proofs.chain.Goals as goal

pub returns : goal.returns
returns c =
    let s = c in
    let at-start = c in
    let a = at-start.args in
    let prev = c.previous_priority.ensures.0 in
    let flt = c.faulted.ensures in λ x.
    let k = core_of a.regs.now a.psw x in
    vectored-law k a.mem.now _ a.v _ _ _ _ _ _ s.vector_psw-p.ensures
    s.vector_pc-pc.ensures s.set_three.ensures c.entered_psw.ensures
    ∙ (λ i. vectored k a.mem.now a.v (prev i) (flt i) (sp k))
