-- A judged run follows the run, and tells what is found in it. Assumes nothing.
use Prim.Native.Nat.{ℕ, zero, suc, ◌≤◌}
use native.Mathlib.Omega.{arith}
use mathlib.Core.Bool.{Bool, true, false, ◌&&◌, ◌||◌, true≢false}
use mathlib.Core.List.{List, [], ◌∷◌}
use mathlib.Core.Logic.{◌≢◌}
use mathlib.Core.Path.{◌≡◌, refl, sym, ap, ◌∙◌}
use lib.Dec.{eqb}
use lib.ListN.{length}
use Rattle.machine.specs.State.{State}
use Rattle.machine.specs.Record.{state_in}
use Rattle.machine.specs.Events.{Event, events_of}
use Rattle.machine.specs.Devices.{deliver}
use Rattle.machine.specs.declared.Act.{Act}
use Rattle.machine.specs.declared.Act.TheVariants as acts
use Rattle.machine.specs.Step.{plan_of, step_of}
use Rattle.machine_laws.proofs.Cases.{bool_cases, neq-of}
use Rattle.machine_laws.proofs.Runs.{run-zero, run_step}
use Rattle.run_laws.proofs.Verdicts.{verdict-fewer}
use Rattle.resume.specs.Frames.{Start, after}
use Rattle.soundness.specs.Findings.{Kind, started, faulted, unopened, trapped, unclosed, changed, slept, device, foreign}
use Rattle.soundness.specs.Findings.{find_after, open_finding, found_of}
use Rattle.soundness.specs.Watch.{Held, no_device?, open_in, seen_by, devices_after, watch_after, watch, noted, told_of}
use Rattle.soundness.specs.Judge.{Judging, begun, holds?, too_deep?, over?, onward, judged_run, closing_told, RunFollows, Tries}
use Rattle.soundness.proofs.Soundness.{judges, kinds-none, none-kinds}
use Rattle.soundness.proofs.Watch.{tells}

-- ---- room

-- one frame more at most, and none more where the act holds none
room_after : (a : Act) (k : ℕ) (t : State) (o : ℕ) (xs : List Held) → length xs ≤ 256
    → eqb (length xs) 256 && holds? a o (no_device? xs) ≡ false → length (devices_after a k t o xs) ≤ 256
room_after acts.Stopped k t o xs h e = h
room_after acts.Pull k t o [] h e = h
room_after acts.Pull k t o (x ∷ xs) h e = omega (arith, h)
room_after (acts.Chain d) k t o [] h e = bool_cases (eqb o 0) (λ q. rw q (omega arith)) (λ q. rw q (omega arith))
room_after (acts.Chain d) k t o (x ∷ xs) h e = h
room_after (acts.Accept d) k t o xs h e =
    bool_cases (eqb (length xs) 256)
    (λ q. absurd (true≢false (sym (ap (λ b. b && true) q) ∙ e)))
    (λ q. let d : length xs ≢ 256 = neq-of q in omega (arith, h))
room_after acts.Sleep k t o xs h e = h
room_after (acts.Fault v) k t o xs h e =
    bool_cases (eqb (length xs) 256)
    (λ q. absurd (true≢false (sym (ap (λ b. b && true) q) ∙ e)))
    (λ q. let d : length xs ≢ 256 = neq-of q in omega (arith, h))
room_after acts.Halt k t o xs h e = h
room_after acts.Skip k t o xs h e = h
room_after (acts.Trap v) k t o [] h e = h
room_after (acts.Trap v) k t o (x ∷ xs) h e =
    bool_cases (eqb (length (x ∷ xs)) 256)
    (λ q. absurd (true≢false (sym (ap (λ b. b && true) q) ∙ e)))
    (λ q. let d : suc (length xs) ≢ 256 = neq-of q in omega (arith, h))
room_after acts.Plain k t o xs h e = h
room_after (acts.Loads byte a d) k t o xs h e = h
room_after (acts.Stores byte a v) k t o xs h e = h

-- ---- one step more

module _ (ev : List Event) (s : State) where
  -- x has followed the run of n
  record At (n : ℕ) (x : Judging) : Type 0 where
    pub within : x.steps ≤ n
    pub state : x.state ≡ after ev s x.steps
    pub carries : x.watch ≡ watch ev s x.steps
    pub notes : (κ : Kind) → x.noted κ ≡ noted ev s κ x.steps
    pub room : length x.watch.devices ≤ 256
    pub whole : over? x ≡ false → x.steps ≡ n

  begun-at : At 0 (begun s)
  unfolding watch noted
  begun-at =
      record {
        within = omega arith;
        state = sym (ap (λ r. r.state) (run-zero ev s));
        carries = refl;
        notes = λ κ. refl;
        room = omega arith;
        whole = λ e. refl;
      }

  module _ (n : ℕ) (x : Judging) (A : At n x) where
    abbrev k : ℕ
    k = x.steps

    next-state : step_of ev x.state ≡ after ev s (suc k)
    next-state = ap (step_of ev) A.state ∙ sym (run_step ev s k)

    next-watch : watch_after (plan_of (deliver ev x.state)).act k (deliver ev x.state) (step_of ev x.state) x.watch
        ≡ watch ev s (suc k)
    unfolding watch
    next-watch = λ i. watch_after (plan_of (deliver ev (A.state i))).act k (deliver ev (A.state i)) (next-state i) (A.carries i)

    next-notes : (κ : Kind) → find_after κ k
        (seen_by (plan_of (deliver ev x.state)).act (deliver ev x.state) (step_of ev x.state) x.watch) (x.noted κ)
        ≡ noted ev s κ (suc k)
    unfolding noted
    next-notes κ =
        λ i. find_after κ k
        (seen_by (plan_of (deliver ev (A.state i))).act (deliver ev (A.state i)) (next-state i) (A.carries i)) (A.notes κ i)

    onward-at : At (suc n) (onward ev x)
    onward-at =
        let w = A.within in
        bool_cases (over? x)
        (λ q.
        rw q
        (record {
          within = omega (arith, w);
          state = A.state;
          carries = A.carries;
          notes = A.notes;
          room = A.room;
          whole = λ e. absurd (true≢false (sym q ∙ e));
        }))
        (λ q.
        bool_cases (too_deep? (plan_of (deliver ev x.state)).act x.watch)
        (λ d.
        rw (q, d)
        (record {
          within = omega (arith, w);
          state = A.state;
          carries = A.carries;
          notes = A.notes;
          room = A.room;
          whole = λ e. absurd (true≢false (sym (ever x.state.halted) ∙ e));
        }))
        (λ d.
        let done = A.whole q in
        rw (q, d)
        (record {
          within = omega (arith, w);
          state = next-state;
          carries = next-watch;
          notes = next-notes;
          room = room_after (plan_of (deliver ev x.state)).act k (step_of ev x.state) x.watch.owns x.watch.devices
              A.room d;
          whole = λ e. ap suc done;
        })))
      where
        ever : (b : Bool) → (b || true) ≡ true
        ever true = refl
        ever false = refl

  judged-at : (n : ℕ) → At n (judged_run ev s n)
  unfolding judged_run
  judged-at zero = begun-at
  judged-at (suc n) = onward-at n (judged_run ev s n) (judged-at n)

pub run-follows : RunFollows
run-follows ev s n =
    let A = judged-at ev s n in
    record { within = A.within; state = A.state; carries = A.carries; notes = A.notes; room = A.room; whole = A.whole }

-- ---- what is told at the close

pub closing-told : (ev : List Event) (s : State) (n : ℕ) (κ : Kind)
    → closing_told s (judged_run ev s n) κ ≡ told_of ev s κ (judged_run ev s n).steps
closing-told ev s n started = refl
closing-told ev s n faulted = (run-follows ev s n).notes faulted
closing-told ev s n unopened = (run-follows ev s n).notes unopened
closing-told ev s n trapped = (run-follows ev s n).notes trapped
closing-told ev s n unclosed = ap (λ w. open_finding (eqb (open_in w) 0) w.oldest) (run-follows ev s n).carries
closing-told ev s n changed = (run-follows ev s n).notes changed
closing-told ev s n slept = (run-follows ev s n).notes slept
closing-told ev s n device = (run-follows ev s n).notes device
closing-told ev s n foreign = (run-follows ev s n).notes foreign

pub tries : Tries
tries memory r events n ok =
    let ev = events_of events in
    let s = state_in r memory in
    let j = (judged_run ev s n).steps in
    let told = closing_told s (judged_run ev s n) in
    let fewer : Start memory r events j =
    record {
      memory_bytes = ok.memory_bytes;
      record_bytes = ok.record_bytes;
      event_bytes = ok.event_bytes;
      accepted = verdict-fewer memory r events n j (run-follows ev s n).within ok.accepted;
    } in
    let same : (κ : Kind) → told κ ≡ found_of ev s κ j = λ κ. closing-told ev s n κ ∙ tells memory r events n ok κ j in
    let J = judges memory r events j fewer in
    record {
      tells = same;
      sound = λ e. J.sound (kinds-none (λ κ. found_of ev s κ j) (λ κ. ap (λ x. x.found) (sym (same κ)) ∙ none-kinds told e κ));
      complete = λ P. kinds-none told (λ κ. ap (λ x. x.found) (same κ) ∙ none-kinds (λ κ. found_of ev s κ j) (J.complete P) κ);
    }
