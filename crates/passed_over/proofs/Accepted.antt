-- What is left of an accepted event list is accepted: its records fit, are in order and have no twins, being records of the list.
-- Assumes nothing.
use Prim.Native.Nat.{ℕ, zero, suc, ◌+◌, ◌*◌, ◌%◌, ◌<◌, ◌≤◌}
use native.Mathlib.Omega.{arith}
use mathlib.Core.Bool.{true, false, not}
use mathlib.Core.List.{List}
use mathlib.Core.Path.{◌≡◌, refl, sym, ap, subst, ◌∙◌}
use lib.ListN.{length, length-drop}
use Rattle.machine.specs.Memory.{byte_at}
use Rattle.machine.specs.Events.{Event, event_at, event_count}
use Rattle.machine.specs.Refusal.{call_rules, events_fit, event_fits, events_fit_below, in_order, in_order_below, twins_below}
use Rattle.machine.specs.Refusal.{call_verdict}
use Rattle.machine_laws.specs.Passed.{Passed}
use Rattle.machine_laws.proofs.Cases.{bool_cases, is_eq, is_lt, is_le, and_both}
use Rattle.machine_laws.proofs.Records.{passed}
use Rattle.machine_laws.proofs.Twins.{twins-found}
use Rattle.run_laws.proofs.Verdicts.{none-broken, broken-none, call-start}
use Rattle.passed_over.specs.PassedOver.{less_first, ShorterAccepted}
use Rattle.passed_over.proofs.Shorter.{byte-less, zeros-less, event-less, count_less}

-- ---- the tests of a list, from each of its records

fits_each : (b : List ℕ) (n : ℕ) → ((j : ℕ) → j < n → event_fits b j ≡ true) → events_fit_below b n ≡ true
unfolding events_fit_below
fits_each b zero h = refl
fits_each b (suc n) h = and_both (fits_each b n (λ j l. h j (omega arith))) (h n (omega arith))

order-each : (b : List ℕ) (n : ℕ) → ((j : ℕ) → suc j < n → in_order b j ≡ true) → in_order_below b n ≡ true
unfolding in_order_below
order-each b zero h = refl
order-each b (suc zero) h = refl
order-each b (suc (suc n)) h = and_both (order-each b (suc n) (λ j l. h j (omega arith))) (h n (omega arith))

module _ (memory r b : List ℕ) (n k : ℕ) (h : k ≤ event_count b) (P : Passed memory r b n) where
  abbrev left : List ℕ
  left = less_first k b

  abbrev m : ℕ
  m = event_count left

  -- a record left is a record of the list
  within : (j : ℕ) → j < m → k + j < event_count b
  within j l = omega (arith, l, h, count_less b k)

  whole-left : events_fit (length left) ≡ true
  whole-left =
      let l = length-drop (8 * k) b in
      let w = P.whole_events in
      let f = P.few_events in
      let q : length left % 8 ≡ 0 = omega (arith, l, w, h) in
      let z : length left ≤ 32768 = omega (arith, l, f) in
      and_both (is_eq q) (is_le z)

  device-lt : (j : ℕ) → j < event_count b → byte_at b (8 * j + 4) < 8
  unfolding event_at
  device-lt j l = P.devices j l

  fits-left : events_fit_below left m ≡ true
  unfolding event_fits
  fits-left =
      fits_each left m
      (λ j l.
      let d : byte_at left (8 * j + 4) < 8 = subst (λ x. x < 8) (sym (byte-less b k j 4)) (device-lt (k + j) (within j l)) in
      let z = zeros-less b k j ∙ P.event_zeros (k + j) (within j l) in
      and_both (is_lt d) (is_eq z))

  order-left : in_order_below left m ≡ true
  unfolding in_order
  order-left =
      order-each left m
      (λ j l.
      let o = P.in_order (k + j) (k + suc j) (omega arith) (within (suc j) l) in
      let a = ap (λ (e : Event). e.step) (event-less b k j) in
      let c = ap (λ (e : Event). e.step) (event-less b k (suc j)) in
      let le : (event_at left j).step ≤ (event_at left (suc j)).step = omega (arith, o, a, c) in
      is_le le)

  twins-left : twins_below left m ≡ false
  twins-left =
      bool_cases (twins_below left m)
      (λ q.
      let t = twins-found left m q in
      let one = event-less b k t.one in
      let other = event-less b k t.other in
      absurd
      (P.no_twins (k + t.one) (k + t.other) (let l = t.before in omega (arith, l)) (within t.other t.within)
      (sym (ap (λ (e : Event). e.step) one) ∙ t.step ∙ ap (λ (e : Event). e.step) other)
      (sym (ap (λ (e : Event). e.device) one) ∙ t.device ∙ ap (λ (e : Event). e.device) other)))
      (λ q. q)

pub shorter-accepted : ShorterAccepted
unfolding call_verdict
shorter-accepted memory r events log n k h ok =
    let P = passed memory r events n (call-start memory r events log n ok) in
    let (e1, (e2, (e3, (e4, (e5, (e6, (e7, (e8, (e9, (e10, _)))))))))) =
    broken-none (call_rules memory r events log n) ok in
    let whole = ap not (whole-left memory r events n k h P) in
    let fits = ap not (fits-left memory r events n k h P) in
    let order = ap not (order-left memory r events n k h P) in
    let twins = twins-left memory r events n k h P in
    none-broken (call_rules memory r (less_first k events) log n)
    (e1, (e2, (e3, (e4, (e5, (whole, (fits, (order, (twins, (e10, tt))))))))))
