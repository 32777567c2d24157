-- The loop keeps that the verdict on the lines from here on is the verdict on the whole source. A faulty line and END decide it, and the
-- end of the source without END is the line after the last.
use Rattle.std.proofs.Common.{◌∙◌, arith}
use Rattle.asm_sweeps.specs.Held.{line_at}
use Rattle.asm_sweeps.proofs.Laws.{bare-fault, bare-line, bare-end, form-fault, form-end, form-more, form-last}
use Rattle.asm_sweeps.proofs.form.Goals as goal

pub returns-in_default : goal.returns-in_default
returns-in_default c =
    let s = c.args.source.now in
    let cut = c.line_at-l in
    form-fault s c.loop-at.at cut.result.stop cut.result.next cut.ensures c.loop-at.number
    (bare-fault s (line_at s c.loop-at.at cut.result.stop) c.read_line-r.result c.read_line-r.ensures c.in_default.is)
    ∙ c.loop-at.invariant.2

pub returns-then-is_stop : goal.returns-then-is_stop
returns-then-is_stop c =
    let s = c.args.source.now in
    let cut = c.line_at-l in
    let l = line_at s c.loop-at.at cut.result.stop in
    let r = c.read_line-r in
    let k = c.in-Some in
    form-end s c.loop-at.at cut.result.stop cut.result.next cut.ensures c.loop-at.number
    (bare-line s l r.result r.ensures k.line k.is)
    (bare-end s l r.result r.ensures k.line k.is c.layout_of.result c.layout_of.ensures c.is_stop.result c.is_stop.ensures
    ∙ c.if-is_stop.true)
    ∙ c.loop-at.invariant.2

pub loop-at-preserved : goal.loop-at-preserved
loop-at-preserved c =
    let s = c.args.source.now in
    let cut = c.line_at-l in
    let l = line_at s c.loop-at.at cut.result.stop in
    let r = c.read_line-r in
    let k = c.in-Some in (
      omega arith,
      omega arith,
      form-more s c.loop-at.at cut.result.stop cut.result.next cut.ensures c.loop-at.number
          (bare-line s l r.result r.ensures k.line k.is)
          (bare-end s l r.result r.ensures k.line k.is c.layout_of.result c.layout_of.ensures c.is_stop.result c.is_stop.ensures
          ∙ c.if-is_stop.false)
          ∙ c.loop-at.invariant.2,
    )

pub returns : goal.returns
returns c = form-last c.args.source.now c.loop-at.at (omega arith) c.loop-at.number ∙ c.loop-at.invariant.2
