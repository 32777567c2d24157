-- The loop's invariant: the rest of the span's text, put at `at`, makes of the text held what the whole makes of the text lent, and the
-- lengths add up. A turn puts a line of at most 16 bytes; the line with the PC is put behind the loop. Assumes nothing.
use Prim.Native.Nat.{◌-◌, ◌+◌}
use mathlib.Core.Path.{refl, ◌∙◌}
use native.Mathlib.Omega.{arith}
use Rattle.stores.proofs.Laws.{part_length}
use Rattle.srec_write.proofs.Laws.{length-turn, length-end, write-more, write-end}
use Rattle.srec_write.proofs.write.Goals as goal

pub put_line-at-requires : goal.put_line-at-requires
put_line-at-requires c =
    let p = c.loop-left in
    let s = c.min-size.result in
    let l = part_length c.args.memory.now p.a (p.a + s - p.a) (omega arith) in
    (omega arith, omega arith, omega arith)

pub loop-left-preserved : goal.loop-left-preserved
loop-left-preserved c =
    let p = c.loop-left in
    let m = c.args.memory.now in
    let s = c.min-size.result in
    let es = c.min-size.ensures in
    let l = part_length m p.a (p.a + s - p.a) (omega arith) in
    let put = c.put_line-at.ensures in
    let kept = c.put_line-at.auto in record {
      span = omega arith;
      size = omega arith;
      place = length-turn p.at _ p.left s _ _ c.loop-left-test.true es (omega arith) put.1 p.invariant.place;
      written = write-more p.text _ m p.at _ p.a p.left s (p.a + s - p.a) c.args.pc
          c.loop-left-test.true es (omega arith) put.0 put.1 ∙ p.invariant.written;
    }

pub returns : goal.returns
returns c =
    let p = c.loop-left in
    let put = c.put_line.ensures in (
      write-end p.text _ c.args.memory.now p.at p.a p.left c.args.pc (omega arith) put.0
          ∙ p.invariant.written,
      length-end p.at _ p.left _ (omega arith) p.invariant.place put.1,
    )

pub loop-left-init : goal.loop-left-init
loop-left-init c = record { span = refl; size = refl; place = omega arith; written = refl }

pub put_line-requires : goal.put_line-requires
put_line-requires c = (omega arith, omega arith, omega arith)
