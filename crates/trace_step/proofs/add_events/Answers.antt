-- The loop's invariant: what is added and what is still to be added from `at` on are all, as a number and as bytes.
-- Assumes nothing.
use Prim.Native.Nat.{ℕ, ◌+◌, ◌*◌, ◌<◌}
use native.Mathlib.Omega.{arith}
use mathlib.Core.Path.{◌≡◌, refl, sym, ap, subst, ◌∙◌}
use lib.ListN.{length}
use lib.Seq.{sets}
use Rattle.machine.specs.Events.{Event, event_at, events_of, event_count}
use Rattle.devices.proofs.Laws.{step_at, rest_from, device-lt}
use Rattle.trace.specs.Trace.{entry_bytes, trace_bytes, event_entry}
use Rattle.trace.specs.Before.{events_before}
use Rattle.trace_step.specs.Steps.{as_seen}
use Rattle.trace_step.proofs.Index as index
use Rattle.trace_step.proofs.add_events.Goals.{then-e-b, else-e-b}
use Rattle.trace_step.proofs.add_events.Goals as goal

pub loop-at-init : goal.loop-at-init
loop-at-init c =
    let s = c in
    let a = s.args in
    let e = index.index-start (as_seen a.b a.devices.now a.lines) a.events.now a.b.step a.next s.requires.0 in record {
      size = refl;
      counted = ap (λ xs. a.k + length xs) e;
      stored = ap (λ xs. sets a.trace.now (16 * a.k) (trace_bytes xs)) e;
    }

-- a record that is due has room
pub add_event-requires : goal.add_event-requires
unfolding event_at
add_event-requires c =
    let a = c.args in
    let l = c.loop-at in
    let t = c.loop-at-test.true in
    let r = index.room-due (as_seen a.b a.devices.now a.lines) a.events.now a.b.step l.at l.added a.k (length l.trace) t
    (sym (ap (λ x. x.step) c.event_at-e.ensures) ∙ c.if-e-b.true) l.invariant.counted (omega (arith, l.invariant.size, c.requires.3)) in
    let d : c.event_at-e.result.device < 8 =
    subst (λ (x : Event). x.device < 8) (sym c.event_at-e.ensures)
    (device-lt a.events.now (event_count a.events.now) l.at c.requires.2 t) in
    (r, d)

pub overflow_add-added : goal.overflow_add-added
overflow_add-added c =
    let a = c.args in
    let l = c.loop-at in
    let r = index.room-due (as_seen a.b a.devices.now a.lines) a.events.now a.b.step l.at l.added a.k (length l.trace) c.loop-at-test.true
    (sym (ap (λ x. x.step) c.event_at-e.ensures) ∙ c.if-e-b.true) l.invariant.counted (omega (arith, l.invariant.size, c.requires.3)) in
    omega (arith, r, l.invariant.size)

pub loop-at-preserved : goal.loop-at-preserved
loop-at-preserved c =
    let at-loop-test = c in
    let o = c in
    let s = c in
    let a = s.args in
    let b = a.events.now in
    let k = a.b.step in
    let u = as_seen a.b a.devices.now a.lines in
    let l = o.loop-at in
    let e : c.event_at-e.result.step ≡ step_at b l.at = ap (λ x. x.step) c.event_at-e.ensures in
    let t : l.at < event_count b = at-loop-test.loop-at-test.true in
    let all = sets a.trace.now (16 * a.k) (trace_bytes (events_before u k (events_of b))) in
    let left = events_before u k (rest_from b (l.at + 1)) in
    elim c.if-e-b.branch [
      | then-e-b w ↦
          let q = sym e ∙ w.if-e-b.true in record {
            size = ap length w.trace-is ∙ w.add_event.auto.trace ∙ l.invariant.size;
            counted = ap (λ (d : ℕ). d + length left) w.added-is ∙ index.count-due u b k l.at l.added _ t q l.invariant.counted;
            stored = (λ i. sets (w.trace-is i) (16 * w.added-is i) (trace_bytes left))
                ∙ index.write-due u b k l.trace _ all l.added l.at t q
                (w.add_event.ensures ∙ ap (λ x. sets l.trace (16 * l.added) (entry_bytes (event_entry u u x))) c.event_at-e.ensures)
                l.invariant.stored;
          }
      | else-e-b w ↦
          let q : step_at b l.at ≡ k → ⊥ = λ p. w.if-e-b.false (e ∙ p) in record {
            size = ap length w.trace-is ∙ l.invariant.size;
            counted = ap (λ (d : ℕ). d + length left) w.added-is ∙ index.count-early u b k l.at l.added _ t q l.invariant.counted;
            stored = (λ i. sets (w.trace-is i) (16 * w.added-is i) (trace_bytes left))
                ∙ index.write-early u b k l.trace all l.added l.at t q l.invariant.stored;
          }
    ]

pub returns : goal.returns
returns c =
    let s = c in
    let a = s.args in
    let b = a.events.now in
    let k = a.b.step in
    let u = as_seen a.b a.devices.now a.lines in
    let l = c.loop-at in
    let e = index.index-end u b k l.at c.loop-at-test.false in
    record {
      added = omega (arith, l.invariant.counted, ap length e);
      trace = index.write-end u b k l.trace _ l.added l.at e
          l.invariant.stored;
    }

pub shape_of-trace-then-b-e : goal.shape_of-trace-then-b-e
shape_of-trace-then-b-e c = c.loop-at.invariant.size

pub returns-then-b-e : goal.returns-then-b-e
returns-then-b-e c =
    let s = c in
    let a = s.args in
    let b = a.events.now in
    let k = a.b.step in
    let u = as_seen a.b a.devices.now a.lines in
    let l = c.loop-at in
    let h = ap (λ x. x.step) c.event_at-e.ensures in
    let t = c.loop-at-test.true in
    let later : k < step_at b l.at = omega (arith, h, c.if-b-e.true) in
    let e = index.index-later u b k l.at s.requires.1 t later in
    record {
      added = omega (arith, l.invariant.counted, ap length e);
      trace = index.write-end u b k l.trace _ l.added l.at e
          l.invariant.stored;
    }
