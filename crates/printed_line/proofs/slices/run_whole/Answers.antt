-- The loop's invariant: the machine, the memory and the steps done are those of the run of as many steps, the index is not past
-- the events to come, and the depth is the one carried over them. Assumes nothing.
use mathlib.Core.Path.{refl, sym, ap, ◌∙◌}
use native.Mathlib.Omega.{arith}
use lib.ListN.{length}
use lib.Seq.{length-sets}
use Rattle.machine.specs.declared.Depth.{Depth}
use Rattle.machine.specs.Log.{log_bytes}
use Rattle.turn.proofs.Laws.{behind-none}
use Rattle.printed_line.proofs.Sliced.{slices-start, slices-count, slices-full, slice-le, slice-on, slice-some, slice-ends}
use Rattle.printed_line.proofs.Sliced.{depth-begins, depth-few, slice-depth}
use Rattle.printed_line.proofs.slices.run_whole.Goals as goal

pub loop-done-init : goal.loop-done-init
loop-done-init c = record {
  some = omega arith;
  short = refl;
  behind = behind-none _ _;
  reached = slices-start _ _;
  deep = depth-begins _ _;
}

pub slice_bounds-run-end : goal.slice_bounds-run-end
slice_bounds-run-end c = omega (arith, c.loop-done.invariant.short)

pub overflow_add-done : goal.overflow_add-done
overflow_add-done c =
    let r = c.run-r.ensures in
    let l = c.loop-done in
    let i = slice-le _ _ _ _ l.invariant.reached _ _ _ _ _ r.state r.reason r.steps in
    omega (arith, i, l.invariant.some)

pub loop-done-smaller : goal.loop-done-smaller
loop-done-smaller c =
    let r = c.run-r.ensures in
    let l = c.loop-done in
    let b = sym c.out_of_room.ensures ∙ c.if-not-out_of_room.false in
    let i = slice-le _ _ _ _ l.invariant.reached _ _ _ _ _ r.state r.reason r.steps in
    let j = slice-some _ _ _ _ l.invariant.reached _ _ _ _ _ r.state r.reason r.steps (omega (arith, l.invariant.short)) b in
    omega (arith, i, j, l.invariant.some)

pub loop-done-preserved : goal.loop-done-preserved
loop-done-preserved c =
    let r = c.run-r.ensures in
    let l = c.loop-done in
    let i = slice-le _ _ _ _ l.invariant.reached _ _ _ _ _ r.state r.reason r.steps in record {
      some = omega (arith, i, l.invariant.some);
      short = ap length r.log ∙ length-sets _ 0 (log_bytes _) ∙ l.invariant.short;
      behind = r.next;
      reached = slice-on _ _ _ _ l.invariant.reached _ _ _ _ _ r.state r.reason r.steps;
      deep = slice-depth _ _ _ _ l.invariant.reached _ _ _ _ _ r.state r.reason r.steps _ _ l.invariant.deep r.depth;
    }

pub returns-after-loop-done : goal.returns-after-loop-done
returns-after-loop-done c =
    let l = c.loop-done in
    record {
      run = slices-full _ _ _ _ l.invariant.reached _ l.invariant.some c.loop-done-test.false;
      deepest = ap (λ (p : Depth). p.deepest) l.invariant.deep;
    }

pub returns-then-not-out_of_room : goal.returns-then-not-out_of_room
returns-then-not-out_of_room c =
    let r = c.run-r.ensures in
    let l = c.loop-done in
    let b = sym c.out_of_room.ensures ∙ c.if-not-out_of_room.true in
    let d = slice-depth _ _ _ _ l.invariant.reached _ _ _ _ _ r.state r.reason r.steps _ _ l.invariant.deep r.depth in
    record {
      run = slice-ends _ _ _ _ l.invariant.reached _ _ _ _ _ r.state r.reason r.steps l.invariant.some b;
      deepest = ap (λ (p : Depth). p.deepest) d;
    }

pub overflow_sub-n : goal.overflow_sub-n
overflow_sub-n c = omega arith

pub run-r-requires : goal.run-r-requires
run-r-requires c =
    let l = c.loop-done in
    let k = slices-count _ _ _ _ l.invariant.reached in (
      omega (arith, c.requires.0, k, l.invariant.some),
      c.requires.1,
      c.requires.2,
      l.invariant.behind,
      omega (arith, depth-few _ _ l.depth _ _ l.invariant.deep l.invariant.some, c.requires.0),
    )
