-- The loop's invariant: what it holds is the definition's run of as many steps with the log's room, the count has gained them,
-- the index awaits the next event, the depth is the one carried over them, and the journal is the one that they leave. A turn's step
-- keeps it, and its free run, if it has one, keeps it again.
-- Assumes nothing.
use Prim.Native.Nat.{◌+◌, ◌/◌, ◌≤◌}
use mathlib.Core.Bool.{false, cond, not, ◌&&◌}
use mathlib.Core.Path.{◌≡◌, refl, sym, ap, subst, ◌∙◌}
use native.Mathlib.Omega.{arith}
use lib.Dec.{eqb, ltb, leb}
use lib.ListN.{length}
use Rattle.machine.specs.declared.Reason.TheVariants.{Done, Halted, NoRoom}
use Rattle.machine.specs.declared.Rest.{Rest}
use Rattle.machine.specs.State.{State, state_with, state_of}
use Rattle.machine.specs.Events.{events_of}
use Rattle.machine.specs.Logged.{run_logged}
use Rattle.machine.specs.Depth.{depth_from}
use Rattle.run_laws.proofs.Depth.{depth-start}
use Rattle.free_run.specs.Reached.{Reached}
use Rattle.free_run.specs.Free.{Along}
use Rattle.free_run.proofs.Laws.{reached-start, reached-left, added-fit, log-size}
use Rattle.journal.specs.Ring.{Journal}
use Rattle.journal_record.specs.Ring.{Lends, journal_with}
use Rattle.run_answer.specs.declared.Ran.{Ran}
use Rattle.run_answer.specs.Leaves.{RunLeaves}
use Rattle.turn.specs.Due.{Awaits}
use Rattle.turn.proofs.Laws.{awaits-from, awaits-later, undisturbed, of-devices, goes_on, all_done, halts-none}
use Rattle.kept_run.specs.Kept.{kept_over}
use Rattle.kept_run.proofs.Kept.{kept-start, kept-size, kept_free, before-kept}
use Rattle.kept_run.proofs.Laws.{carried, step-taken, undone, room_for, opened-fits, lends_none, opened-left, room-now, free-along}
use Rattle.kept_run.proofs.run_kept.Goals as goal
use Rattle.kept_run.proofs.run_kept.Goals.{
  After-ended,
  After-go_free-q,
  After-perform-t,
  else-loop-done-test,
  then-loop-done-test+then-lacks_room,
}

pub loop-done-init : goal.loop-done-init
loop-done-init c = record {
  some = omega arith;
  size = refl;
  counts = omega arith;
  awaits = awaits-from _ _ _ _ _ c.requires.3 c.awaiting-at.ensures;
  reached = reached-start _ _ _ _;
  sixteen = refl;
  deep = sym (depth-start _ _ _);
  kept = kept-start _ _ _ _;
  lends = c.requires.5;
}

pub shown_by-shown-requires : goal.shown_by-shown-requires
shown_by-shown-requires c = omega (arith, c.told-memory, c.loop-done.invariant.size, c.deliver_due-d.auto.memory)

pub lacks_room-requires : goal.lacks_room-requires
lacks_room-requires c = added-fit _ _ _ _ _ _ _ _ c.loop-done.invariant.reached

pub add-added-requires : goal.add-added-requires
add-added-requires c =
    let l = c.loop-done in
    let n = l.t.count in
    room_for n c.shown_by-shown.result l.added c.args.log.now l.log _ (c.lacks_room.ensures n)
    c.if-lacks_room.false (log-size _ _ _ _ _ _ _ _ l.invariant.reached)

pub moved-depth-requires : goal.moved-depth-requires
moved-depth-requires c =
    let l = c.loop-done in
    opened-fits _ _ _ _ _ c.args.n l.invariant.deep (goes_on l.t.halted l.done c.args.n c.loop-done-test.true).1 c.requires.4

-- a step that is taken keeps the invariant
stepped : (c : After-perform-t) → record {
  some : c.loop-done.done + 1 ≤ c.args.n;
  size : length c.perform-t.new.mem ≡ length c.args.memory.now;
  counts : c.perform-t.result.count ≡ c.args.m.rest.count + (c.loop-done.done + 1);
  awaits : Awaits c.args.events.now c.deliver_due-d.result.at.next c.deliver_due-d.result.at.due c.perform-t.result.count;
  reached :
      Reached
      (run_logged (events_of c.args.events.now) (state_of c.args.m c.args.memory.now) (length c.args.log.now / 8) (c.loop-done.done + 1))
      c.args.log.now (state_with c.perform-t.new.regs c.perform-t.result c.perform-t.new.mem) (c.loop-done.done + 1)
      c.add-added.result c.add-added.new.log false;
  sixteen : length c.keep.new.kept ≡ 16;
  deep :
      c.moved-depth.result
      ≡ depth_from (events_of c.args.events.now) (state_of c.args.m c.args.memory.now) c.args.begun (c.loop-done.done + 1);
  kept :
      journal_with c.keep_step-ring.new.journal c.keep_step-ring.result
      ≡ kept_over c.args.journal.now c.args.begins (events_of c.args.events.now) (state_of c.args.m c.args.memory.now)
      (c.loop-done.done + 1);
  lends : Lends c.keep_step-ring.new.journal c.keep_step-ring.result;
}
stepped c =
    let l = c.loop-done in
    let a = c.args in
    let d = c.deliver_due-d in
    let q = c.perform-t in
    let b = a.events.now in
    let n = l.t.count in
    let on = goes_on l.t.halted l.done a.n c.loop-done-test.true in
    let one : q.result.count ≡ n + 1 = ap (λ (z : State). z.count) q.ensures in
    let size : length d.new.memory ≡ 65536 = omega (arith, c.told-memory, l.invariant.size, d.auto.memory) in
    let b₀ = a.journal.now in
    let lent = not (eqb (length b₀) 0) in
    let full = eqb l.added (length a.log.now / 8) && leb l.at.due n in
    let w =
    step-taken _ _ _ _ _ _ _ _ _ _ l.invariant.reached on.0 _ _ d.ensures.state _ c.plan-p.ensures.plan
    c.shown_by-shown.result c.shown_by-shown.ensures _ c.lacks_room.ensures
    _ q.ensures c.if-lacks_room.false _ c.add-added.ensures.added _ c.add-added.ensures.log _ _ _ l.invariant.deep c.moved-depth.ensures
    (of-devices b c.requires.2) (omega (arith, c.told-memory, l.invariant.size)) b₀ a.begins lent full c.wants-wanted.result refl
    c.wants-wanted.ensures _ c.keep.ensures.bytes _ _ l.invariant.kept _
    (c.keep_step-ring.ensures.kept _ _ (before-kept _ _ c.keep.ensures.size size) refl) in record {
      some = omega (arith, on.1);
      size = omega (arith, size, c.told-memory, q.auto.mem);
      counts = omega (arith, one, l.invariant.counts);
      awaits = awaits-later b d.result.at.next d.result.at.due (n + 1) d.ensures.awaits _ (omega (arith, one));
      reached = w.0;
      sixteen = c.keep.ensures.size;
      deep = w.1;
      kept = w.2;
      lends = c.keep_step-ring.ensures.lends;
    }

pub overflow_add-done : goal.overflow_add-done
overflow_add-done c = omega (arith, (stepped (goal.at.overflow_add-done c).After-perform-t).some)

pub overflow_sub-n : goal.overflow_sub-n
overflow_sub-n c = (stepped (goal.at.overflow_sub-n c).After-perform-t).some

pub go_free-q-requires : goal.go_free-q-requires
go_free-q-requires c =
    let h = stepped (goal.at.go_free-q-requires c).After-perform-t in
    let few = c.at_once-u.ensures.0 in
    let room = room-now _ _ _ _ _ _ _ h.reached in (
      omega (arith, few, h.some, h.counts, c.requires.0),
      opened-left _ _ _ _ _ _ c.args.n h.deep (omega (arith, few, h.some)) c.requires.4,
      omega (arith, added-fit _ _ _ _ _ _ _ _ h.reached, room),
    )

-- the steps of a free run are not past those of the run
within : (c : After-go_free-q) → c.loop-done.done + 1 ≤ c.args.n → c.loop-done.done + 1 + c.go_free-q.result.done ≤ c.args.n
within c some = omega (arith, some, c.at_once-u.ensures.0, c.go_free-q.ensures.few)

pub overflow_add-done-then-u-gt0 : goal.overflow_add-done-then-u-gt0
overflow_add-done-then-u-gt0 c =
    let w = goal.at.overflow_add-done-then-u-gt0 c in
    omega (arith, within w.After-go_free-q (stepped w.After-perform-t).some)

pub loop-done-smaller-then-u-gt0 : goal.loop-done-smaller-then-u-gt0
loop-done-smaller-then-u-gt0 c =
    let l = c.loop-done in
    let w = goal.at.loop-done-smaller-then-u-gt0 c in
    omega (arith, within w.After-go_free-q (stepped w.After-perform-t).some, (goes_on l.t.halted l.done c.args.n c.loop-done-test.true).1)

-- what the run has come to after it, and the invariant
pub loop-done-preserved-then-u-gt0 : goal.loop-done-preserved-then-u-gt0
loop-done-preserved-then-u-gt0 c =
    let at_end = goal.at.loop-done-preserved-then-u-gt0 c in
    let h = stepped at_end.After-perform-t in
    let g = c.go_free-q in
    let q = c.perform-t in
    let d = c.deliver_due-d.result in
    let z = c.at_once-u in
    let a = c.args in
    let b = a.events.now in
    let b₀ = a.journal.now in
    let lent = not (eqb (length b₀) 0) in
    let j = g.result.done in
    let n : g.result.rest.count ≡ q.result.count + j = ap (λ (x : Rest). x.count) g.ensures.rest in
    let w :
    Along (events_of b) (state_of a.m a.memory.now) (length a.log.now / 8) a.log.now a.begun
    (state_with g.new.regs g.result.rest g.new.memory) g.result.depth g.result.added g.new.log
    (c.loop-done.done + 1 + j) =
    free-along (events_of b) _ _ _ _ q.new.regs q.result q.new.mem _ _ _ _ (record { reached = h.reached; depth = h.deep })
    z.result d.at.due c.if-u-gt0.true (halts-none lent q.result.halted z.result z.ensures.2)
    (undisturbed b d.at.next d.at.due q.result.count h.awaits c.requires.1) z.ensures.1
    (room-now _ _ _ _ _ _ _ h.reached) g.new.regs g.new.memory g.new.log _ _ j _ _ g.ensures.goes
    g.result.rest g.ensures.rest in record {
      some = within at_end.After-go_free-q h.some;
      size = omega (arith, h.size, g.auto.memory);
      counts = omega (arith, n, h.counts);
      awaits = awaits-later b d.at.next d.at.due q.result.count h.awaits _ (omega (arith, n));
      reached = w.reached;
      sixteen = h.sixteen;
      deep = w.depth;
      kept = kept_free b₀ a.begins (events_of b) _ (c.loop-done.done + 1) j
          (lends_none b₀ q.result.halted z.result j g.ensures.few z.ensures.2) _ h.kept;
      lends = h.lends;
    }

pub loop-done-smaller : goal.loop-done-smaller
loop-done-smaller c =
    let l = c.loop-done in
    omega (arith, (goes_on l.t.halted l.done c.args.n c.loop-done-test.true).1)

pub loop-done-preserved : goal.loop-done-preserved
loop-done-preserved c = stepped (goal.at.loop-done-preserved c).After-perform-t

-- the two ways out: no turn is begun, a step given up
exits : (c : After-ended)
    → let x = c.loop-done-test in
    let l = c.loop-done in
    let a = c.args in
    Reached (run_logged (events_of a.events.now) (state_of a.m a.memory.now) (length a.log.now / 8) a.n) a.log.now
    (state_with x.regs l.t x.memory) l.done l.added l.log (ltb l.done a.n && not l.t.halted)
exits c =
    let l = c.loop-done in
    let a = c.args in
    let b = a.events.now in
    let lent = not (eqb (length a.journal.now) 0) in
    elim c.loop-done-test.branch [
      | else-loop-done-test w ↦
          carried w.memory-is w.regs-is w.loop-done-test.false
          (reached-left _ _ _ _ _ _ _ _ l.invariant.reached a.n l.invariant.some
          (all_done l.t.halted l.done a.n l.invariant.some w.loop-done-test.false))
      | then-loop-done-test+then-lacks_room w ↦
          let more = goes_on l.t.halted l.done a.n w.loop-done-test.true in
          let back =
          undone b _ _ _ _ _ _ _ _ _ l.invariant.reached more.0 _ _ w.deliver_due-d.ensures.state _ w.plan-p.ensures.plan
          w.shown_by-shown.result w.shown_by-shown.ensures _ w.lacks_room.ensures w.if-lacks_room.true l.at.next l.at.due
          l.invariant.awaits c.requires.1 c.requires.2
          (omega (arith, c.told-memory, l.invariant.size)) lent _ w.wants-wanted.ensures _ w.keep.ensures.bytes a.n more.1 in
          carried (w.memory-is ∙ w.put_back.ensures ∙ back.0) w.regs-is w.loop-done-test.true back.1
    ]

pub shape_of-log : goal.shape_of-log
shape_of-log c = log-size _ _ _ _ _ _ _ _ c.loop-done.invariant.reached

pub shape_of-journal : goal.shape_of-journal
shape_of-journal c =
    let a = c.args in
    ap (λ (z : Journal). length z.bytes) c.loop-done.invariant.kept
    ∙ kept-size a.journal.now a.begins (events_of a.events.now) (state_of a.m a.memory.now) c.loop-done.done

pub returns : goal.returns
returns c =
    let l = c.loop-done in
    let a = c.args in
    let b = a.events.now in
    let s₀ = state_of a.m a.memory.now in
    let h = exits c in record {
      run = subst (λ (r : Ran). RunLeaves b s₀ a.log.now a.begun a.n r c.loop-done-test.memory l.log) (sym c.ended.ensures)
          record {
            state = h.state;
            reason = λ i. cond (h.short i) NoRoom (cond (h.state i).halted Halted Done);
            steps = h.steps;
            added = h.added;
            log = h.log;
            next = l.invariant.awaits.0;
            depth = l.invariant.deep ∙ ap (depth_from (events_of b) s₀ a.begun) h.steps;
          };
      journal = ap (λ (r : Ran). journal_with l.journal r.ring) c.ended.ensures
          ∙ l.invariant.kept
          ∙ ap (kept_over a.journal.now a.begins (events_of b) s₀) h.steps;
    }
