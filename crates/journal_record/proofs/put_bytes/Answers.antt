use Rattle.std.proofs.Common.{sym, refl, ◌∙◌, arith, length-set}
use Rattle.stores.proofs.Laws.{copied-start, copied-turn, copied-end}
use Rattle.journal_record.proofs.put_bytes.Goals as goal

pub loop-i-preserved : goal.loop-i-preserved
loop-i-preserved c =
    let s = c in
    let l = c.loop-i in
    let t = c.loop-i-test.true in
    (simp length-set l.invariant.0, copied-turn l.e s.args.at s.args.v.now l.i t ∙ l.invariant.1)

pub shape_of-e : goal.shape_of-e
shape_of-e c = c.loop-i.invariant.0

pub returns : goal.returns
returns c =
    let s = c in
    let l = c.loop-i in
    sym (copied-end l.e s.args.at s.args.v.now l.i (omega (arith, c.loop-i-test.false)))
    ∙ l.invariant.1 ∙ copied-start s.args.e.now s.args.at s.args.v.now

pub loop-i-init : goal.loop-i-init
loop-i-init c = (refl, refl)
