-- The loop keeps that the image of the lines from here on, in the memory as it is now, is the image of the whole source in the memory
-- as it came. A line's bytes are stored by one step of that equation, and END or the end of the source leaves nothing to store.
use Rattle.asm_image.proofs.Laws.{store-end, store-more, image-last}
use Rattle.asm_text.specs.Text.{values_in}
use native.Mathlib.Omega.{arith}
use mathlib.Core.Path.{refl, sym, ◌∙◌}
use Rattle.asm_image.proofs.image.Goals as goal

pub loop-at-init : goal.loop-at-init
loop-at-init c = (omega arith, c.requires, refl)

pub store_line-r-requires : goal.store_line-r-requires
store_line-r-requires c = c.loop-at.invariant.1

pub shape_of-memory-then-r : goal.shape_of-memory-then-r
shape_of-memory-then-r c =
    c.store_line-r.auto.memory ∙ c.loop-at.invariant.1 ∙ sym c.requires

pub returns-then-r : goal.returns-then-r
returns-then-r c =
    let stored = c.store_line-r in
    let cut = c.line_at-l in
    store-end (values_in c.args.names.now) c.args.names.now.source.now c.loop-at.at cut.result.stop cut.result.next
    c.loop-at.p c.loop-at.memory stored.new.memory cut.ensures stored.ensures.memory_after stored.result.end
    stored.ensures.end_value c.if-r.true ∙ c.loop-at.invariant.2

pub loop-at-preserved : goal.loop-at-preserved
loop-at-preserved c =
    let stored = c.store_line-r in
    let cut = c.line_at-l in (
      omega arith,
      stored.auto.memory ∙ c.loop-at.invariant.1,
      store-more (values_in c.args.names.now) c.args.names.now.source.now c.loop-at.at cut.result.stop cut.result.next
          c.loop-at.p c.loop-at.memory stored.new.memory cut.ensures stored.ensures.memory_after stored.result.end
          stored.ensures.end_value c.if-r.false stored.result.place stored.ensures.place_value ∙ c.loop-at.invariant.2,
    )

pub shape_of-memory : goal.shape_of-memory
shape_of-memory c = c.loop-at.invariant.1 ∙ sym c.requires

pub returns : goal.returns
returns c =
    let loop = c.loop-at in
    image-last (values_in c.args.names.now) c.args.names.now.source.now loop.at loop.p loop.memory (omega arith)
    ∙ loop.invariant.2
