-- A stretch first: where it does all the steps, the run is that stretch; else its steps are before those of the run that is kept
-- nowhere, which goes on from the state that they reach. Assumes nothing.
use Prim.Native.Nat.{◌+◌, ◌-◌, ◌≤◌}
use mathlib.Core.Bool.{cond, not, ◌&&◌}
use mathlib.Core.Path.{◌≡◌, sym, ap, subst, ◌∙◌}
use native.Mathlib.Omega.{arith}
use lib.ListN.{length}
use borrow.Author.Rules.{rules}
use borrow.Author.Tests.{le-ltb}
use Rattle.machine.specs.declared.Reason.TheVariants.{Done, Halted, NoRoom}
use Rattle.machine.specs.declared.Rest.{Rest}
use Rattle.machine.specs.State.{state_of, state_with}
use Rattle.machine.specs.Events.{events_of}
use Rattle.machine.specs.Log.{log_bytes}
use Rattle.machine.specs.Logged.{Logged, run_logged, reason_logged}
use Rattle.machine.specs.Call.{room_of, log_after}
use Rattle.machine.specs.Depth.{depth_from}
use Rattle.run_laws.proofs.Room.{logged-le}
use Rattle.stretch.specs.Stretch.{Passes}
use Rattle.devices.proofs.Laws.{behind-later}
use Rattle.run_answer.specs.declared.Ran.{Ran}
use Rattle.run_answer.specs.Leaves.{RunLeaves}
use Rattle.turn.proofs.Laws.{undisturbed, stretch-passes}
use Rattle.xm23_run.proofs.Laws.{passed-run, passed-depth, run_on_lem, depth-run-on}
use Rattle.xm23_run.proofs.run.Goals as goal
use Rattle.xm23_run.proofs.run.Goals.{After-gone_on-s}

-- no more steps than there are
few : (c : After-gone_on-s) → c.at_once-u.result - c.stretch-p.result.left ≤ c.args.n
few c = omega (arith, c.at_once-u.ensures.0)

-- the count after the stretch
count-on : (c : After-gone_on-s) → c.gone_on-s.result.count ≡ c.args.m.rest.count + (c.at_once-u.result - c.stretch-p.result.left)
count-on c = ap (λ (x : Rest). x.count) c.gone_on-s.ensures

-- its steps are the first of the run, all uneventful
passed : (c : After-gone_on-s)
    → Passes (events_of c.args.events.now) (state_of c.args.m c.args.memory.now)
    (state_with c.stretch-p.new.regs c.gone_on-s.result c.stretch-p.new.mem)
    (c.at_once-u.result - c.stretch-p.result.left)
passed c =
    let a = c.args in
    let b = a.events.now in
    let t = a.m.rest in
    let f = c.stretch-p in
    let z = c.at_once-u in
    let d = c.due_at in
    stretch-passes (events_of b) a.m.regs t a.memory.now f.new.regs f.result f.new.mem z.result d.result
    z.ensures.2 (undisturbed b a.from d.result t.count (c.requires.3, d.ensures) c.requires.1) z.ensures.1 f.ensures.passes
    c.gone_on-s.result c.gone_on-s.ensures

pub gone_on-s-requires : goal.gone_on-s-requires
gone_on-s-requires c = (c.stretch-p.ensures.left, omega (arith, c.at_once-u.ensures.0, c.requires.0))

-- a stretch alone
pub returns-then-done-n : goal.returns-then-done-n
unfolding log_bytes
returns-then-done-n c =
    let i = (goal.at.returns-then-done-n c).After-gone_on-s in
    let a = c.args in
    let b = a.events.now in
    let f = c.stretch-p in
    let t = c.gone_on-s.result in
    let v = state_with f.new.regs t f.new.mem in
    let s₀ = state_of a.m a.memory.now in
    let p : Passes (events_of b) s₀ v a.n = subst (Passes (events_of b) s₀ v) c.if-done-n.true (passed i) in
    let x = sym (passed-run (events_of b) s₀ v a.n p (room_of a.log.now)) in
    subst (λ (r : Ran). RunLeaves b s₀ a.log.now a.begun a.n r f.new.mem a.log.now) (sym c.ended.ensures)
    record {
      state = ap (λ (y : Logged). y.state) x;
      reason = ap (λ d. cond (d && not t.halted) NoRoom (cond t.halted Halted Done)) (le-ltb a.n a.n (omega arith))
          ∙ ap reason_logged x;
      steps = ap (λ (y : Logged). y.steps) x;
      added = ap (λ (y : Logged). length y.records) x;
      log = ap (log_after a.log.now) x;
      next = behind-later b a.from a.m.rest.count _ (omega (arith, count-on i)) c.requires.3;
      depth = sym (passed-depth (events_of b) s₀ v a.n p (room_of a.log.now) a.begun)
          ∙ ap (λ (y : Logged). depth_from (events_of b) s₀ a.begun y.steps) x;
    }

pub run_kept-r-requires : goal.run_kept-r-requires
run_kept-r-requires c =
    let i = (goal.at.run_kept-r-requires c).After-gone_on-s in
    let a = c.args in (
      omega (arith, count-on i, few i, c.requires.0),
      c.requires.1,
      c.requires.2,
      behind-later a.events.now a.from a.m.rest.count _ (omega (arith, count-on i)) c.requires.3,
      omega (arith, c.requires.4),
      search rules,
    )

-- the steps of the run that goes on
pub overflow_add-r : goal.overflow_add-r
overflow_add-r c =
    let i = (goal.at.overflow_add-r c).After-gone_on-s in
    let r = c.run_kept-r in
    let k = c.args.n - (c.at_once-u.result - c.stretch-p.result.left) in
    let l : r.result.steps ≤ k = subst (λ j. j ≤ k) (sym r.ensures.run.steps) (logged-le _ _ _ _) in
    omega (arith, l, few i, c.requires.0)

-- a stretch, and the run that goes on from it
pub returns : goal.returns
returns c =
    let i = (goal.at.returns c).After-gone_on-s in
    let a = c.args in
    let b = a.events.now in
    let ev = events_of b in
    let k = room_of a.log.now in
    let f = c.stretch-p in
    let j = c.at_once-u.result - c.stretch-p.result.left in
    let s₀ = state_of a.m a.memory.now in
    let v = state_with f.new.regs c.gone_on-s.result f.new.mem in
    let x = sym (run_on_lem ev s₀ v j (passed i) k a.n (few i)) in
    let o = c.run_kept-r in
    let l = o.ensures.run in
    let all : o.result.steps + j ≡ j + (run_logged ev v k (a.n - j)).steps = omega (arith, l.steps) in record {
      state = l.state ∙ ap (λ (y : Logged). y.state) x;
      reason = l.reason ∙ ap reason_logged x;
      steps = all ∙ ap (λ (y : Logged). y.steps) x;
      added = l.added ∙ ap (λ (y : Logged). length y.records) x;
      log = l.log ∙ ap (log_after a.log.now) x;
      next = l.next;
      depth = l.depth ∙ depth-run-on ev s₀ v j (passed i) k a.begun a.n (few i);
    }
