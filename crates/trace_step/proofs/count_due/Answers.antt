-- The loop's invariant: what is counted and what is still to be counted from `at` on are all that are due. A record counts where its
-- step is the count, an earlier one is passed over, and from a later one on none is due. Assumes nothing.
use Prim.Native.Nat.{ℕ, ◌+◌, ◌<◌}
use native.Mathlib.Omega.{arith}
use mathlib.Core.Path.{◌≡◌, sym, ap, ◌∙◌}
use lib.ListN.{length}
use Rattle.machine.specs.Events.{event_count}
use Rattle.devices.proofs.Laws.{step_at, rest_from}
use Rattle.trace.specs.Before.{events_before}
use Rattle.trace_step.proofs.Index as index
use Rattle.trace_step.proofs.count_due.Goals.{then-step-count, else-step-count}
use Rattle.trace_step.proofs.count_due.Goals as goal

pub loop-at-init : goal.loop-at-init
loop-at-init c =
    let s = c in record {
      few = omega arith;
      inside = s.requires.0.0;
      counted = λ t. omega (arith, ap length (index.index-start t s.args.events.now s.args.count s.args.next s.requires.0));
    }

pub overflow_add-due : goal.overflow_add-due
overflow_add-due c = omega (arith, c.loop-at.invariant.few)

pub loop-at-preserved : goal.loop-at-preserved
loop-at-preserved c =
    let s = c in
    let b = s.args.events.now in
    let k = s.args.count in
    let l = c.loop-at in
    let e : c.step_at-step.result ≡ step_at b l.at = c.step_at-step.ensures in
    let t : l.at < event_count b = c.loop-at-test.true in
    elim c.if-step-count.branch [
      | then-step-count w ↦ record {
        few = omega (arith, l.invariant.few, w.due-is);
        inside = omega (arith, t);
        counted = λ u. ap (λ (d : ℕ). d + length (events_before u k (rest_from b (l.at + 1)))) w.due-is
            ∙ index.count-due u b k l.at l.due _ t (sym e ∙ w.if-step-count.true) (l.invariant.counted u);
      }
      | else-step-count w ↦ record {
        few = omega (arith, l.invariant.few, w.due-is);
        inside = omega (arith, t);
        counted = λ u. ap (λ (d : ℕ). d + length (events_before u k (rest_from b (l.at + 1)))) w.due-is
            ∙ index.count-early u b k l.at l.due _ t (λ q. w.if-step-count.false (e ∙ q)) (l.invariant.counted u);
      }
    ]

pub returns : goal.returns
returns c =
    let s = c in
    let b = s.args.events.now in
    let l = c.loop-at in (
      λ u. omega (arith, l.invariant.counted u, ap length (index.index-end u b s.args.count l.at c.loop-at-test.false)),
      omega
          (arith, l.invariant.few, l.invariant.inside),
    )

pub returns-then-count-step : goal.returns-then-count-step
returns-then-count-step c =
    let s = c in
    let b = s.args.events.now in
    let l = c.loop-at in
    let e = c.step_at-step.ensures in
    let t = c.loop-at-test.true in (
      λ u. omega (arith, l.invariant.counted u, ap length (index.index-later u b s.args.count l.at s.requires.1 t (omega arith))),
      omega
          (arith, l.invariant.few, l.invariant.inside),
    )
