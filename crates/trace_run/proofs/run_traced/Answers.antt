-- The loop's invariant: what it holds is the definition's run of as many steps with the trace's room, the count has gained them,
-- and the index awaits the next event. A turn's step keeps it, and its stretch, if it has one, keeps it again.
-- Assumes nothing.
use Rattle.std.proofs.Common.{◌≡◌, ◌+◌, ◌-◌, ◌/◌, ◌<◌, cond, not, length, refl, sym, ap, ◌∙◌, arith}
use Rattle.machine.specs.declared.Reason.TheVariants.{Done, Halted, NoRoom}
use Rattle.machine.specs.declared.Rest.{Rest}
use Rattle.machine.specs.State.{State, state_with, state_of}
use Rattle.machine.specs.Events.{events_of}
use Rattle.machine_laws.proofs.Steps.{step_count}
use Rattle.stretch.specs.Stretch.{Passes}
use Rattle.turn.proofs.Laws.{behind-none, awaits-from, awaits-later, undisturbed, goes_on, all_done, halts-none, stretch-passes}
use Rattle.trace.specs.Traced.{run_traced}
use Rattle.trace_run.specs.Reached.{Reached}
use Rattle.trace_run.proofs.Laws.{reached-start, added-fit, trace-size, reached-stretch, reached-left, turn_on, turn-off, turn-kept}
use Rattle.trace_run.proofs.Laws.{carried, awaits-quiet, sparse_of, asked-sparse}
use Rattle.trace_run.proofs.run_traced.Goals.{else-loop-done-test, then-loop-done-test+in_default}
use Rattle.trace_run.proofs.run_traced.Goals as goal

pub loop-done-init : goal.loop-done-init
loop-done-init c =
    record {
      some = omega arith;
      counts = omega arith;
      awaits = awaits-from _ _ _ _ _ (behind-none _ _) c.awaiting-at.ensures;
      reached = reached-start _ _ _ _ _;
      whole = refl;
    }

-- a turn that is begun is of a machine not halted, with steps to do
pub step_traced-requires : goal.step_traced-requires
step_traced-requires c =
    let s = c.requires in
    let l = c.loop-done in
    let i = l.invariant in
    let on = goes_on l.t.halted l.done c.args.n c.loop-done-test.true in
    record {
      live = on.0;
      counts = omega (arith, s.counts, i.counts, on.1);
      starts = c.start_of-b.ensures;
      awaits = i.awaits;
      ordered = s.ordered;
      fit = s.fit;
      apart = s.apart;
      within = added-fit _ _ _ _ _ _ _ _ _ i.reached;
      roomy = omega (arith, trace-size _ _ _ _ _ _ _ _ _ i.reached);
    }

pub gone_on-t-requires : goal.gone_on-t-requires
gone_on-t-requires c =
    let l = c.loop-done in
    let on = goes_on l.t.halted l.done c.args.n c.loop-done-test.true in
    let q = c.in-Some in
    let n : q.x.rest.count ≡ l.t.count + 1 =
    ap (λ (z : State). z.count) (q.ensures.0.taken refl)
    ∙ step_count (events_of c.args.events.now) (state_with l.regs l.t l.memory) on.0 in
    (c.stretch-q.ensures.left, omega (arith, n, on.1, l.invariant.counts, c.requires.counts, c.at_once-j.ensures.0))

-- a step that is taken keeps the invariant
pub loop-done-preserved : goal.loop-done-preserved
loop-done-preserved c =
    let l = c.loop-done in
    let i = l.invariant in
    let on = goes_on l.t.halted l.done c.args.n c.loop-done-test.true in
    let x = c.in-Some.ensures.0 in
    let n : c.in-Some.x.rest.count ≡ l.t.count + 1 =
    ap (λ (z : State). z.count) (x.taken refl) ∙ step_count (events_of c.args.events.now) (state_with l.regs l.t l.memory) on.0 in
    record {
      some = omega (arith, on.1);
      counts = omega (arith, n, i.counts);
      awaits = c.in-Some.ensures.1;
      reached = turn_on _ _ _ _ _ _ _ _ _ i.reached on.0 _ _ _ _ x refl;
      whole = i.whole;
    }

-- and the invariant holds after a stretch
pub loop-done-preserved-then-j-gt0 : goal.loop-done-preserved-then-j-gt0
loop-done-preserved-then-j-gt0 c =
    let l = c.loop-done in
    let i = l.invariant in
    let on = goes_on l.t.halted l.done c.args.n c.loop-done-test.true in
    let q = c.step_traced in
    let x = c.in-Some.ensures.0 in
    let quiet = c.sparse-quiet in
    let z = c.at_once-j in
    let f = c.stretch-q in
    let g = c.gone_on-t in
    let b = c.args.events.now in
    let r = c.in-Some.x in
    let j = z.result - f.result.left in
    let m : r.rest.count ≡ l.t.count + 1 =
    ap (λ (y : State). y.count) (x.taken refl) ∙ step_count (events_of b) (state_with l.regs l.t l.memory) on.0 in
    let n : g.result.count ≡ r.rest.count + j = ap (λ (y : Rest). y.count) g.ensures in
    let more : 0 < z.result = c.if-j-gt0.true in
    let sparse = asked-sparse quiet.result r.rest.halted z.result z.ensures.2 more in
    let e : Passes (events_of b) (state_with q.new.regs r.rest q.new.memory) (state_with f.new.regs g.result f.new.mem) j =
    stretch-passes (events_of b) q.new.regs r.rest q.new.memory f.new.regs f.result f.new.mem z.result r.at.due
    (halts-none (not quiet.result) r.rest.halted z.result z.ensures.2)
    (undisturbed b r.at.next r.at.due r.rest.count c.in-Some.ensures.1 c.requires.ordered) z.ensures.1
    f.ensures.passes g.result g.ensures in
    record {
      some = omega (arith, on.1, z.ensures.0);
      counts = omega (arith, n, m, i.counts);
      awaits = awaits-later b r.at.next r.at.due r.rest.count c.in-Some.ensures.1 _ (omega (arith, n));
      reached =
          reached-stretch _ _ _ _ _ _ _ _ _ (turn_on _ _ _ _ _ _ _ _ _ i.reached on.0 _ _ _ _ x refl) _ _ e.0 e.1
          (sparse_of c.args.kinds (sym quiet.ensures ∙ sparse))
          (λ k a h.
          awaits-quiet b r.at.next r.at.due r.rest.count c.in-Some.ensures.1 c.requires.ordered k a (omega (arith, h, z.ensures.1)));
      whole = i.whole;
    }

-- the two ways out: no turn is begun, a step given up
exits : (c : goal.After-reason_of)
    → let x = c.loop-done-test in
    let l = c.loop-done in
    let a = c.args in
    Reached (run_traced a.kinds (events_of a.events.now) (state_of a.m a.memory.now) (length a.trace.now / 16) a.n)
    a.trace.now (state_with x.regs l.t x.memory) l.done l.added x.trace x.short
exits c =
    let a = c.args in
    let l = c.loop-done in
    let i = l.invariant in
    elim c.loop-done-test.branch [
      | else-loop-done-test w ↦
          carried w.memory-is w.regs-is w.trace-is (w.short-is ∙ i.whole)
          (reached-left _ _ _ _ _ _ _ _ _ i.reached a.n i.some (all_done l.t.halted l.done a.n i.some w.loop-done-test.false))
      | then-loop-done-test+in_default w ↦
          let go = goes_on l.t.halted l.done a.n w.loop-done-test.true in
          let x = w.in_default.ensures in
          let same = turn-kept _ _ _ _ _ _ _ _ _ i.reached go.0 _ _ _ _ x refl in
          carried (w.memory-is ∙ same.0) w.regs-is (w.trace-is ∙ same.1) w.short-is
          (turn-off _ _ _ _ _ _ _ _ _ i.reached go.0 _ _ _ _ x refl a.n go.1)
    ]

pub returns : goal.returns
returns c =
    let h = exits c in
    record {
      state = h.state;
      reason = c.reason_of.ensures ∙ (λ i. cond (h.short i) NoRoom (cond (h.state i).halted Halted Done));
      steps = h.steps;
      added = h.added;
      trace = h.trace;
    }
