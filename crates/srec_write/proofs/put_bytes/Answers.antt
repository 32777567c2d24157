use Rattle.std.proofs.Common.{refl, sym, ◌∙◌, arith, length-set}
use Rattle.srec_write.proofs.Laws.{digits_more, digits-end}
use Rattle.srec_write.proofs.put_bytes.Goals as goal

pub loop-b-preserved : goal.loop-b-preserved
loop-b-preserved c =
    let p = c.loop-b in (
      omega arith,
      simp length-set p.invariant.1,
      digits_more p.text c.args.bytes.now p.next p.b-index _ _ (omega arith) c.digit.ensures c.digit-in-loop-b.ensures
          ∙ p.invariant.2,
    )

pub returns : goal.returns
returns c =
    let p = c.loop-b in
    (sym (digits-end p.text c.args.bytes.now p.next p.b-index (omega arith)) ∙ p.invariant.2, omega arith)

pub loop-b-init : goal.loop-b-init
loop-b-init c = (omega arith, refl, refl)

pub bounds-text-next-in-loop-b : goal.bounds-text-next-in-loop-b
bounds-text-next-in-loop-b c = simp length-set (omega arith)
