-- The loop's invariant: the steps left, gone back from what is held, give what all steps give from what was lent. A turn copies out the
-- record before the next place, which is one step of `back_of`; with none left, what is held is the answer. Assumes nothing.
use Rattle.std.proofs.Common.{◌≡◌, ◌+◌, ◌-◌, sym, ◌∙◌, arith}
use Rattle.journal.specs.Ring.{journal_of}
use Rattle.journal.specs.Back.{lent_of, back_of}
use Rattle.going_back.proofs.Laws.{back-turn, back_end}
use Rattle.going_back.proofs.go_back.Goals as goal

pub loop-init : goal.loop-init
loop-init c =
    let a = c.args in
    let z : a.k - 0 ≡ a.k = omega arith in
    let y : a.r.kept - 0 ≡ a.r.kept = omega arith in
    record {
      inside = c.requires.3;
      same = λ i. back_of (z i) (lent_of a.memory.now a.state.now (journal_of a.journal.now (y i) a.r.place));
    }

pub place_before-p-requires : goal.place_before-p-requires
place_before-p-requires c = c.loop.invariant.inside

pub copy_out-requires : goal.copy_out-requires
copy_out-requires c =
    let q = c.place_before-p.ensures.1 in
    (omega (arith, c.requires.0, c.loop.auto.memory), omega (arith, c.requires.1, c.loop.auto.state), omega (arith, q))

pub loop-preserved : goal.loop-preserved
loop-preserved c =
    let a = c.args in
    let l = c.loop in
    let q = c.place_before-p in
    let o = c.copy_out in
    let left = a.k - l.counter in
    let kept = a.r.kept - l.counter in
    let e : a.k - (l.counter + 1) ≡ left - 1 = omega arith in
    let f : a.r.kept - (l.counter + 1) ≡ kept - 1 = omega arith in
    record {
      inside = q.ensures.1;
      same = (λ i. back_of (e i) (lent_of o.new.memory o.new.state (journal_of a.journal.now (f i) q.result)))
          ∙ back-turn l.memory l.state a.journal.now kept l.p left q.result _ _ (omega arith) q.ensures.0 o.ensures.memory o.ensures.state
          ∙ l.invariant.same;
    }

pub returns : goal.returns
returns c =
    let a = c.args in
    let l = c.loop in
    let e : a.k ≡ l.counter = omega arith in
    (λ i. lent_of l.memory l.state (journal_of a.journal.now (a.r.kept - e i) l.p))
    ∙ sym (back_end (lent_of l.memory l.state (journal_of a.journal.now (a.r.kept - l.counter) l.p)) (a.k - l.counter) (omega arith))
    ∙ l.invariant.same
