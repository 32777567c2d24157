-- The loop's invariant: what it holds is the definition's judged run of as many steps, the count has gained them, the index awaits the
-- next event, and the frames have their places. A step that is taken keeps it.
-- Assumes nothing.
use Rattle.std.proofs.Common.{ℕ, ◌≡◌, ◌+◌, eqb, length, refl, sym, ap, ◌∙◌, arith}
use lib.ListN.{length-replicate}
use mathlib.Core.Bool.{false≢true}
use Rattle.machine.specs.State.{State, core_with, state_with}
use Rattle.machine_laws.proofs.Cases.{and_left}
use Rattle.devices.specs.Cursor.{state_from}
use Rattle.turn.proofs.Laws.{behind-none, awaits-from, awaits-later, goes_on, all_done, restored}
use Rattle.judge.proofs.Turns.{start-law, end-law, carried, deep_is, reaches_step, reaches-deep, reaches-left}
use Rattle.judge.proofs.judge_run.Goals as goal
use Rattle.judge.proofs.judge_run.Goals.{else-loop-done-test, then-loop-done-test+then-too_deep}

pub loop-done-init : goal.loop-done-init
loop-done-init c = (
  omega arith,
  refl,
  omega arith,
  awaits-from _ _ _ _ _ (behind-none _ _) c.awaiting-at.ensures,
  start-law _ _ _ _ _ _ c.no_frames-frames.ensures c.requires.4 c.requires.6,
  refl,
  refl,
  omega (arith, c.no_frames-frames.ensures.1),
  omega (arith, c.no_frames-frames.ensures.0),
  refl,
  refl,
)

-- a step that is taken
pub loop-done-preserved : goal.loop-done-preserved
loop-done-preserved c =
    let l = c.loop-done in
    let i = l.invariant in
    let on = goes_on l.t.halted l.done c.args.n c.loop-done-test.true in
    let d = c.deliver_due-d in
    let x = c.take-t in
    let n = l.t.count in
    let begins = state_from (core_with l.regs l.t) d.result.lines l.t.halted n d.new.memory in
    let k = x.ensures.step begins refl refl refl refl c.plan-p.ensures.plan in
    let one : x.result.count ≡ n + 1 = ap (λ (z : State). z.count) k.leaves in (
      omega (arith, on.1),
      omega (arith, i.1),
      omega (arith, one, i.2),
      awaits-later c.args.events.now d.result.at.next d.result.at.due (n + 1) d.ensures.awaits _ (omega (arith, one)),
      reaches_step _ _ _ _ _ _ _ i.4 on.0 begins (d.ensures.state (core_with l.regs l.t) l.t.halted)
          (deep_is l.frames l.writers _ _ (ap (λ q. q.act) c.plan-p.ensures.plan) _ c.too_deep.ensures
          ∙ c.if-too_deep.false)
          _ _ _ k,
      i.5,
      omega (arith, c.keep.ensures.size),
      x.ensures.bounds.0,
      omega (arith, x.ensures.bounds.1, i.8),
      omega (arith, x.auto.writers, i.9),
      omega (arith, x.auto.findings, i.10),
    )

-- no turn is begun, or a step is not taken: memory is put back
pub returns : goal.returns
returns c =
    let a = c.args in
    let l = c.loop-done in
    let i = l.invariant in
    elim c.loop-done-test.branch [
      | else-loop-done-test w ↦
          end-law _ _ a.n _ _ _ l.frames l.writers _ _
          (carried w.memory-is w.regs-is (w.deep-is ∙ i.5)
          (reaches-left _ _ _ _ _ _ _ i.4 a.n i.0 (all_done l.t.halted l.done a.n i.0 w.loop-done-test.false)))
      | then-loop-done-test+then-too_deep w ↦
          let on = goes_on l.t.halted l.done a.n w.loop-done-test.true in
          let d = w.deliver_due-d in
          let core = core_with l.regs l.t in
          let full = and_left (eqb l.frames.open.held 256) _ (sym w.too_deep.ensures ∙ w.if-too_deep.true) in
          let undone : w.put_back.new.mem ≡ l.memory =
          w.put_back.ensures
          ∙ restored a.events.now l.at.next l.at.due (state_with l.regs l.t l.memory) i.3
          c.requires.1 c.requires.2 (omega (arith, c.told-memory, i.1)) (eqb l.frames.open.held 256)
          (λ q. absurd (false≢true (sym q ∙ full))) _ _
          w.keep.ensures.bytes
          (ap (λ (z : State). z.mem) (d.ensures.state core l.t.halted)) in
          end-law _ _ a.n _ _ _ l.frames l.writers _ _
          (carried (w.memory-is ∙ undone) w.regs-is w.deep-is
          (reaches-deep _ _ _ _ _ _ _ i.4 on.0 (state_from core d.result.lines l.t.halted l.t.count d.new.memory)
          (d.ensures.state core l.t.halted)
          (deep_is l.frames l.writers _ _ (ap (λ q. q.act) w.plan-p.ensures.plan) _ w.too_deep.ensures
          ∙ w.if-too_deep.true)
          a.n on.1))
    ]

pub take-t-requires : goal.take-t-requires
take-t-requires c =
    let l = c.loop-done in
    let i = l.invariant in
    let on = goes_on l.t.halted l.done c.args.n c.loop-done-test.true in
    let w = ap length c.requires.4 ∙ length-replicate {A = ℕ} 65536 0 in (
      i.9 ∙ w,
      i.10 ∙ c.requires.5,
      i.7,
      omega (arith, i.8, on.1, c.requires.3),
      omega (arith, on.1, i.2, c.requires.0),
      c.plan-p.ensures.within,
      sym c.too_deep.ensures ∙ c.if-too_deep.false,
    )
