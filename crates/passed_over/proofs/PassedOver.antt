-- A run depends on its due events alone, so that passed-over events can be left out of a call's list: the count only rises, so an event
-- whose step lies behind the start's count is due at no step, and both lists deliver the same at every step. Assumes nothing.
use Prim.Native.Nat.{ℕ, zero, suc, ◌+◌, ◌≤◌}
use native.Mathlib.Omega.{arith}
use mathlib.Core.Bool.{true, false, cond}
use mathlib.Core.List.{List, ◌++◌}
use mathlib.Core.Path.{◌≡◌, refl, sym, ap, subst, ◌∙◌}
use lib.Dec.{ltb}
use lib.ListN.{length}
use Rattle.machine.specs.declared.Depth.{Depth}
use Rattle.machine.specs.State.{State}
use Rattle.machine.specs.Record.{state_in}
use Rattle.machine.specs.Events.{Event, events_of}
use Rattle.machine.specs.Devices.{deliver}
use Rattle.machine.specs.Step.{plan_of, finished, step_of}
use Rattle.machine.specs.Run.{Run, ran, further, run_of}
use Rattle.machine.specs.Log.{logged_of, logged_next}
use Rattle.machine.specs.Logged.{Logged, logged, over?, onward, run_logged}
use Rattle.machine.specs.Depth.{depth_after, depth_from}
use Rattle.machine.specs.Call.{room_of, closing}
use Rattle.machine_laws.proofs.Records.{start-count}
use Rattle.machine_laws.proofs.Steps.{run-count}
use Rattle.run_laws.proofs.Room.{logged-run}
use Rattle.run_laws.proofs.Calls.{accepted-call}
use Rattle.run_laws.proofs.Depth.{accepted-deepest}
use Rattle.passed_over.specs.PassedOver.{PassedOver, less_first, SameFrom, DueAlone, PassedOverDoNothing}
use Rattle.passed_over.proofs.Shorter.{deliver-less}
use Rattle.passed_over.proofs.Accepted.{shorter-accepted}

-- ---- one step more

further_same : (ev ev' : List Event) (x : Run) → deliver ev x.state ≡ deliver ev' x.state → further ev x ≡ further ev' x
unfolding step_of
further_same ev ev' x e =
    ap (λ d. cond x.state.halted x (ran (cond x.state.halted x.state (finished d)) (suc x.steps))) e

onward-same : (ev ev' : List Event) (room : ℕ) (x : Logged) → deliver ev x.state ≡ deliver ev' x.state
    → onward ev room x ≡ onward ev' room x
unfolding step_of logged_next
onward-same ev ev' room x e =
    ap (λ d.
    cond (over? x) x
    (cond (ltb room (length x.records + length (logged_of (plan_of d).act d)))
    (logged x.state x.steps x.records true)
    (logged (cond x.state.halted x.state (finished d)) (suc x.steps) (x.records ++ logged_of (plan_of d).act d) false))) e

-- ---- the run

module _ (ev ev' : List Event) (s : State) (same : SameFrom s.count ev ev') where
  -- a run only counts on
  later : (j : ℕ) → s.count ≤ (run_of ev s j).state.count
  later j = let c = run-count ev s j in omega (arith, c)

  due-same : (j : ℕ) → deliver ev (run_of ev s j).state ≡ deliver ev' (run_of ev s j).state
  due-same j = same (run_of ev s j).state (later j)

  run-same : (n : ℕ) → run_of ev s n ≡ run_of ev' s n
  unfolding run_of
  run-same zero = refl
  run-same (suc n) = further_same ev ev' (run_of ev s n) (due-same n) ∙ ap (further ev') (run-same n)

  logged-same : (room n : ℕ) → run_logged ev s room n ≡ run_logged ev' s room n
  unfolding run_logged
  logged-same room zero = refl
  logged-same room (suc n) =
      let x = run_logged ev s room n in
      let at : x.state ≡ (run_of ev s x.steps).state = ap (λ (y : Run). y.state) (logged-run ev s room n) in
      onward-same ev ev' room x (subst (λ t. deliver ev t ≡ deliver ev' t) (sym at) (due-same x.steps))
      ∙ ap (onward ev' room) (logged-same room n)

  depth_same : (p : Depth) (n : ℕ) → depth_from ev s p n ≡ depth_from ev' s p n
  unfolding depth_from
  depth_same p zero = refl
  depth_same p (suc n) =
      let due = due-same n ∙ ap (λ (x : Run). deliver ev' x.state) (run-same n) in
      λ i. depth_after (plan_of (due i)).act (depth_same p n i)

pub due-alone : DueAlone
due-alone ev ev' s same room n = (run-same ev ev' s same n, logged-same ev ev' s same room n)

-- ---- the call

module _ (memory r events : List ℕ) (k : ℕ) (P : PassedOver r events k) where
  -- no record left out is due
  same_from : SameFrom (state_in r memory).count (events_of (less_first k events)) (events_of events)
  same_from t h =
      deliver-less events k t.count t P.within
      (λ i l e. let p = P.early i l in omega (arith, h, p, e, start-count r memory))

pub passed-over-do-nothing : PassedOverDoNothing
passed-over-do-nothing memory r events log n number k ok P =
    let less = less_first k events in
    let s = state_in r memory in
    let same = same_from memory r events k P in
    let fine = shorter-accepted memory r events log n k P.within ok in
    let run = logged-same (events_of less) (events_of events) s same (room_of log) n in
    record {
      accepted = fine;
      call = accepted-call memory r less log n fine ∙ ap (closing log) run ∙ sym (accepted-call memory r events log n ok);
      deepest = accepted-deepest memory r less log n number fine
          ∙ (λ i. (depth_same (events_of less) (events_of events) s same (record { opened = 0; deepest = 0 }) (run i).steps i).deepest)
          ∙ sym (accepted-deepest memory r events log n number ok);
    }
