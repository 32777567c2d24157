-- The loop's invariant: the list with the records of the lines still to be read stored from byte i on is the list that is promised,
-- and there is room for them. A line's record is the first of those; after END, or the last line, there are none. Assumes nothing.
use native.Mathlib.Omega.{arith}
use mathlib.Core.Path.{refl, ◌∙◌}
use lib.ListN.{length}
use Rattle.asm_text.specs.Text.{values_in}
use Rattle.asm_places.proofs.Laws.{list-room, list-end, list-more, list_left, list-last}
use Rattle.asm_places.proofs.list_lines.Goals as goal

pub loop-at-init : goal.loop-at-init
loop-at-init c =
    let pre = c.requires in (omega arith, refl, omega (arith, pre), refl)

pub list_line-r-requires : goal.list_line-r-requires
list_line-r-requires c =
    let start = c in
    let cut = c.line_at-l in
    let loop = c.loop-at in
    let look = values_in start.args.names.now in
    let room = list-room look start.args.names.now.source.now loop.at cut.result.stop cut.result.next loop.p cut.ensures
    loop.i (length start.args.list.now) loop.invariant.2 in
    omega (arith, room, loop.invariant.1)

pub shape_of-list-then-r : goal.shape_of-list-then-r
shape_of-list-then-r c =
    let at-loop = c in
    let list-line = c.list_line-r in
    list-line.auto.list ∙ at-loop.loop-at.invariant.1

pub returns-then-r : goal.returns-then-r
returns-then-r c =
    let start = c in
    let at-line-at = c in
    let at-loop = c in
    let done = c.list_line-r in
    let cut = at-line-at.line_at-l in
    let look = values_in start.args.names.now in
    list-end look start.args.names.now.source.now at-loop.loop-at.at cut.result.stop cut.result.next at-loop.loop-at.p cut.ensures
    at-loop.loop-at.list done.new.list at-loop.loop-at.i done.ensures.list_after done.result.end done.ensures.end_value c.if-r.true
    ∙ at-loop.loop-at.invariant.3

pub loop-at-preserved : goal.loop-at-preserved
loop-at-preserved c =
    let start = c in
    let at-line-at = c in
    let at-loop = c in
    let done = c.list_line-r in
    let cut = at-line-at.line_at-l in
    let look = values_in start.args.names.now in (
      omega arith,
      done.auto.list ∙ at-loop.loop-at.invariant.1,
      list_left look start.args.names.now.source.now at-loop.loop-at.at cut.result.stop cut.result.next at-loop.loop-at.p
          cut.ensures at-loop.loop-at.list done.new.list at-loop.loop-at.i done.ensures.list_after done.result.end
          done.ensures.end_value c.if-r.false done.result.place done.ensures.place_value done.result.at done.ensures.at_value
          (length start.args.list.now) at-loop.loop-at.invariant.2,
      list-more look start.args.names.now.source.now at-loop.loop-at.at cut.result.stop cut.result.next at-loop.loop-at.p
          cut.ensures at-loop.loop-at.list done.new.list at-loop.loop-at.i done.ensures.list_after done.result.end
          done.ensures.end_value c.if-r.false done.result.place done.ensures.place_value done.result.at done.ensures.at_value
          ∙ at-loop.loop-at.invariant.3,
    )

pub shape_of-list : goal.shape_of-list
shape_of-list c = c.loop-at.invariant.1

pub returns : goal.returns
returns c =
    let start = c in
    let loop = c.loop-at in
    let look = values_in start.args.names.now in
    list-last look start.args.names.now.source.now loop.at loop.p loop.list loop.i (omega arith)
    ∙ loop.invariant.3
