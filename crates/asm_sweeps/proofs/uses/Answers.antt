-- The loop keeps that the tally of the lines from here on is the tally of the whole source. A line is one step of that equation; END or
-- the end of the source leaves the tally as it is.
use Rattle.std.proofs.Common.{ap, ◌∙◌, arith}
use Rattle.asm_text.specs.Text.{values_in}
use Rattle.asm_sweeps.specs.declared.Tally.{Tally}
use Rattle.asm_sweeps.proofs.Laws.{use-all-end, use-all-more, uses-last}
use Rattle.asm_sweeps.proofs.uses.Goals as goal

pub returns-then-r : goal.returns-then-r
returns-then-r c =
    let r = c.use_line-r in
    use-all-end c.args.names.now.source.now c.loop-at.at c.line_at-l.result.stop c.line_at-l.result.next c.line_at-l.ensures
    (values_in c.args.names.now) c.loop-at.t r.result.tally r.ensures.tally_value r.result.end r.ensures.end_value c.if-r.true
    ∙ c.loop-at.invariant.2

pub next_line-t-requires : goal.next_line-t-requires
next_line-t-requires c = omega (arith, c.use_line-r.ensures.line_value, c.loop-at.invariant.1)

pub loop-at-preserved : goal.loop-at-preserved
loop-at-preserved c =
    let r = c.use_line-r in
    let next = c.next_line-t in (
      omega arith,
      omega (arith, ap (λ (x : Tally). x.line) next.ensures, r.ensures.line_value),
      use-all-more c.args.names.now.source.now c.loop-at.at c.line_at-l.result.stop c.line_at-l.result.next c.line_at-l.ensures
          (values_in c.args.names.now) c.loop-at.t r.result.tally r.ensures.tally_value r.result.end r.ensures.end_value c.if-r.false
          next.result next.ensures ∙ c.loop-at.invariant.2,
    )

pub returns : goal.returns
returns c =
    uses-last c.args.names.now.source.now c.loop-at.at (omega arith) (values_in c.args.names.now) c.loop-at.t
    ∙ c.loop-at.invariant.2
