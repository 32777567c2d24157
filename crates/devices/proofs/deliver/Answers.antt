-- `devices::deliver` meets its contract. The loop's invariant: every record before `at` is behind the next step, and
-- what is still to be delivered from `at` on, from the state reached, is what was to be delivered at first. Each turn
-- is one of the laws of the event index. Assumes nothing.
use Prim.Native.Nat.{ℕ, ◌+◌, ◌≤◌, ◌<◌}
use mathlib.Core.Path.{◌≡◌, refl, sym, ap, ap₂, subst, ◌∙◌}
use mathlib.Core.Bool.{Bool}
use mathlib.Core.List.{List}
use native.Mathlib.Omega.{arith}
use lib.ListN.{length}
use Rattle.machine.specs.State.{Core, State}
use Rattle.machine.specs.Events.{Event, event_at, event_count}
use Rattle.machine.specs.Devices.{event_on, deliver_at}
use Rattle.devices.specs.Cursor.{Behind, state_from}
use Rattle.devices.proofs.Laws.{step_at, rest_from, device-lt}
use Rattle.devices.proofs.Laws.{index-start, index-applied, index-early, index-later, index-end, behind-next}
use Rattle.devices.proofs.deliver.Goals as goal
use Rattle.devices.proofs.deliver.Goals.{then-e-count, else-e-count}

below : {r a k : ℕ} → r ≡ a → r ≤ k → (r ≡ k → ⊥) → a < k
below e l n = omega arith

pub loop-at-init : goal.loop-at-init
loop-at-init c =
    let s = c in record {
      past = (s.requires.behind_2.0, λ j u. omega (arith, s.requires.behind_2.1 j u));
      delivered = λ core h. index-start s.args.events.now s.args.count s.args.next _ s.requires.behind_2;
    }

pub event_on-l-requires : goal.event_on-l-requires
unfolding event_at
event_on-l-requires c =
    let at-loop-test = c in
    let at-loop = c in
    let s = c in
    let b = s.args.events.now in
    let l = at-loop.loop-at in
    let t = at-loop-test.loop-at-test.true in
    let d : c.event_at-e.result.device < 8 =
    subst (λ (x : Event). x.device < 8) (sym c.event_at-e.ensures) (device-lt b (event_count b) l.at s.requires.events_value t) in
    d

pub loop-at-preserved : goal.loop-at-preserved
loop-at-preserved c =
    let s = c in
    let b = s.args.events.now in
    let k = s.args.count in
    let l = c.loop-at in
    let e : c.event_at-e.result.step ≡ step_at b l.at = ap (λ x. x.step) c.event_at-e.ensures in
    let t : l.at < event_count b = c.loop-at-test.true in
    let u : c.event_at-e.result.step ≤ k = c.if-count-e.false in
    let behind : Behind b (l.at + 1) (k + 1) = behind-next b k l.at l.invariant.past t (omega arith) in
    let left : Core → Bool → ℕ → List ℕ → State = λ core h y z. deliver_at k (rest_from b (l.at + 1)) (state_from core y h k z) in
    elim c.if-e-count.branch [
      | then-e-count w ↦ record {
        past = behind;
        delivered = λ core h.
            let q = w.event_on-l.ensures core h k ∙ ap (λ x. event_on x (state_from core l.l h k l.mem)) c.event_at-e.ensures in
            ap₂ (left core h) w.l-is w.mem-is
            ∙ index-applied b k l.at (state_from core l.l h k l.mem) t (sym e ∙ w.if-e-count.true) q
            ∙ l.invariant.delivered core h;
      }
      | else-e-count w ↦ record {
        past = behind;
        delivered = λ core h.
            let p : step_at b l.at < k = below e u w.if-e-count.false in
            ap₂ (left core h) w.l-is w.mem-is
            ∙ sym (index-early b k l.at (state_from core l.l h k l.mem) t p)
            ∙ l.invariant.delivered core h;
      }
    ]

pub returns : goal.returns
returns c =
    let s = c in
    let b = s.args.events.now in
    let l = c.loop-at in
    let z : l.at ≡ event_count b = omega (arith, l.invariant.past.0, c.loop-at-test.false) in record {
      state = λ core h.
          sym (index-end s.args.events.now s.args.count l.at _ c.loop-at-test.false) ∙ l.invariant.delivered core h;
      behind = subst (λ (x : ℕ). Behind b x (s.args.count + 1)) z l.invariant.past;
    }

pub returns-then-count-e : goal.returns-then-count-e
returns-then-count-e c =
    let s = c in
    let b = s.args.events.now in
    let l = c.loop-at in
    let e = ap (λ x. x.step) c.event_at-e.ensures in
    let t = c.loop-at-test.true in record {
      state = λ core h.
          sym (index-later b s.args.count l.at _ s.requires.ordered t (omega arith)) ∙ l.invariant.delivered core h;
      behind = l.invariant.past;
    }
