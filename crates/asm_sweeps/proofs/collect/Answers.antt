-- The loop keeps that the table of the lines from here on, over the names given so far, is the table of the whole source, and that the
-- array holds those names. A line is one step of that equation; END or the end of the source leaves the table as it is.
use Rattle.std.proofs.Common.{ap, sym, ◌∙◌, arith}
use Rattle.text_lines.specs.Lines.{lines_of}
use Rattle.asm_sweeps.specs.declared.Tally.{Tally}
use Rattle.asm_sweeps.specs.Places.{table_from}
use Rattle.asm_sweeps.specs.Held.{table_at}
use Rattle.asm_sweeps.proofs.Names.{apart_of, holds_as}
use Rattle.asm_sweeps.proofs.Laws.{collect-end, collect-more, table-last, table-start, holds-start}
use Rattle.asm_sweeps.proofs.collect.Goals as goal

pub loop-at-init : goal.loop-at-init
loop-at-init c =
    let a = c.args in (
      omega arith,
      omega arith,
      ap (table_from (lines_of a.source.now)) (table-start a.source.now a.list.now),
      holds-start a.source.now a.list.now c.requires,
    )

pub name_line-r-requires : goal.name_line-r-requires
name_line-r-requires c = (
  c.loop-at.invariant.3,
  apart_of c.args.source.now c.loop-at.at c.line_at-l.result.stop c.line_at-l.result.next c.line_at-l.ensures,
)

pub shape_of-list-then-r : goal.shape_of-list-then-r
shape_of-list-then-r c = c.name_line-r.ensures.holds.0.size ∙ sym c.requires

pub returns-then-r : goal.returns-then-r
returns-then-r c =
    let r = c.name_line-r in record {
      result_after = collect-end c.args.source.now c.loop-at.at c.line_at-l.result.stop c.line_at-l.result.next c.line_at-l.ensures
          c.loop-at.list r.new.list c.loop-at.t r.result.tally r.ensures.tally_after r.result.end r.ensures.end_value c.if-r.true
          ∙ c.loop-at.invariant.2;
      holds = r.ensures.holds.0;
    }

pub next_line-t-requires : goal.next_line-t-requires
next_line-t-requires c = omega (arith, c.name_line-r.ensures.holds.1, c.loop-at.invariant.1)

pub loop-at-preserved : goal.loop-at-preserved
loop-at-preserved c =
    let r = c.name_line-r in
    let next = c.next_line-t in (
      omega arith,
      omega (arith, ap (λ (x : Tally). x.line) next.ensures, r.ensures.holds.1),
      collect-more c.args.source.now c.loop-at.at c.line_at-l.result.stop c.line_at-l.result.next c.line_at-l.ensures
          c.loop-at.list r.new.list c.loop-at.t r.result.tally r.ensures.tally_after r.result.end r.ensures.end_value c.if-r.false
          next.result next.ensures ∙ c.loop-at.invariant.2,
      holds_as c.args.source.now r.new.list r.result.tally next.result (ap (λ (x : Tally). x.count) next.ensures) r.ensures.holds.0,
    )

pub shape_of-list : goal.shape_of-list
shape_of-list c = c.loop-at.invariant.3.size ∙ sym c.requires

pub returns : goal.returns
returns c = record {
  result_after = table-last c.args.source.now c.loop-at.at (omega arith) (table_at c.args.source.now c.loop-at.list c.loop-at.t)
      ∙ c.loop-at.invariant.2;
  holds = c.loop-at.invariant.3;
}
