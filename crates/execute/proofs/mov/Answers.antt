-- `execute::mov` meets its contract. Assumes nothing.
use mathlib.Core.Path.{ap, ◌∙◌}
use lib.Dec.{eqb}
use Rattle.word.specs.Width.{width_of, low, with_low}
use Rattle.machine.specs.Effect.{effect_of}
use Rattle.execute.proofs.Laws.{writing}
use Rattle.execute.proofs.mov.Goals as goal

pub returns : goal.returns
unfolding effect_of
returns c =
    let s = c in
    let d = c in
    let g = c in
    let b = c in
    let v = c in
    let t = c in
    let a = s.args in
    let w = width_of (eqb a.wb 1) in
    writing a.regs.now _ a.psw a.cex _ a.dst
    (v.with_low-v.ensures ∙ λ i. with_low w (d.get.ensures i) ((b.low_bits.ensures.0 ∙ ap (low w) g.get-2.ensures) i))
    t.put.ensures c.asks_nothing.ensures
