-- The loop's invariant: the lines from `at` on make of the memory and the PC that are held what all lines make of those lent, and they are
-- sound. A turn stores the line at `at`; with no line left, what is held is the answer. Assumes nothing.
use Prim.Native.Nat.{ℕ}
use mathlib.Core.Path.{refl, sym, ap, ◌∙◌}
use mathlib.Core.List.{List}
use native.Mathlib.Omega.{arith}
use lib.ListN.{drop}
use Rattle.text_lines.specs.Lines.{lines_of}
use Rattle.srec.specs.Load.{memory_after, pc_after}
use Rattle.srec_load.proofs.Laws.{memory-end, pc-end, sound-here, memory-here, pc-here}
use Rattle.srec_load.proofs.load.Goals as goal

pub loop-at-init : goal.loop-at-init
loop-at-init c = record { inside = omega arith; size = refl; sound = c.requires.1; stored = refl; counter = refl }

pub store-requires : goal.store-requires
store-requires c =
    (omega arith, (sound-here c.args.text.now _ _ _ c.line_at-l.ensures c.loop-at.invariant.sound).0)

pub pc-last-requires : goal.pc-last-requires
pc-last-requires c =
    (sound-here c.args.text.now _ _ _ c.line_at-l.ensures c.loop-at.invariant.sound).0

pub loop-at-preserved : goal.loop-at-preserved
loop-at-preserved c =
    let t : List ℕ = c.args.text.now in
    let p = c.loop-at in
    let here = c.line_at-l.ensures in
    let next = c.line_at-l.result.next in record {
      inside = omega arith;
      size = omega arith;
      sound = (sound-here t _ _ _ here p.invariant.sound).1;
      stored = ap (memory_after (lines_of (drop next t))) c.store.ensures ∙ memory-here t _ _ _ here p.memory ∙ p.invariant.stored;
      counter = ap (pc_after (lines_of (drop next t))) c.pc-last.ensures ∙ pc-here t _ _ _ here p.last ∙ p.invariant.counter;
    }

pub returns : goal.returns
returns c = let t : List ℕ = c.args.text.now in
    let p = c.loop-at in record {
      memory = sym (memory-end t p.at p.memory (omega arith)) ∙ p.invariant.stored;
      pc = sym (pc-end t p.at p.last (omega arith)) ∙ p.invariant.counter;
    }
