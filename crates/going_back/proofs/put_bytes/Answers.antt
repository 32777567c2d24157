-- `going_back::put_bytes` meets its contract. The loop's invariant: what is left to copy, copied, gives what the whole does.
-- Assumes nothing.
use Rattle.std.proofs.Common.{◌≡◌, sym, refl, ap, ◌∙◌, arith, length-set}
use Rattle.going_back.proofs.Laws.{rest, bytes-start, bytes-turn, bytes-end}
use Rattle.going_back.proofs.put_bytes.Goals as goal

pub loop-i-init : goal.loop-i-init
loop-i-init c = let s = c in record { size = s.requires.0; wraps = omega arith; left = refl }

pub loop-i-preserved : goal.loop-i-preserved
loop-i-preserved c =
    let s = c in
    let l = c.loop-i in
    let b = s.args.journal.now in
    let t = c.loop-i-test.true in
    let w = l.invariant in record {
      size = simp length-set w.size;
      wraps = omega (arith, w.wraps);
      left = bytes-turn l.memory b s.args.from s.args.a s.args.n l.i l.at s.requires.1 t w.wraps ∙ w.left;
    }

pub shape_of-memory : goal.shape_of-memory
shape_of-memory c = c.loop-i.invariant.size ∙ sym c.requires.0

pub returns : goal.returns
returns c =
    let s = c in
    let l = c.loop-i in
    let b = s.args.journal.now in
    let e : l.i ≡ s.args.n = omega arith in
    sym (ap (rest l.memory b s.args.from s.args.a s.args.n) e
    ∙ bytes-end l.memory b s.args.from s.args.a s.args.n)
    ∙ l.invariant.left ∙ bytes-start s.args.memory.now b s.args.from s.args.a s.args.n
