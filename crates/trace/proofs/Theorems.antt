-- The statements of specs/Theorems.antt, each from the laws of its part: what a step adds (Steps, Before), a run with room
-- for so many records (Room, Enough), sets of kinds (Runs), bytes (Bytes) and the call (Calls). Assumes nothing.
use Prim.Native.Nat.{ℕ, zero, suc, ◌+◌, ◌*◌, ◌≤◌}
use native.Mathlib.Omega.{arith}
use mathlib.Core.Bool.{true}
use mathlib.Core.List.{List, [], ◌∷◌, ◌++◌}
use mathlib.Core.Path.{◌≡◌, refl, sym, ap, ◌∙◌}
use lib.Dec.{eqb}
use lib.ListN.{length}
use lib.Seq.{length-sets}
use Rattle.word.specs.Psw.{bit_of}
use Rattle.machine.specs.State.{State}
use Rattle.machine.specs.Memory.{byte_at}
use Rattle.machine.specs.Record.{state_in}
use Rattle.machine.specs.Events.{Event, events_of}
use Rattle.machine.specs.Devices.{event_on}
use Rattle.machine_laws.specs.Bounds.{Each}
use Rattle.machine_laws.proofs.Cases.{bool_cases}
use Rattle.run_laws.proofs.Room as log
use Rattle.trace.specs.Trace.{Entry, entry, events_traced, step_traced, asked, traced_of, trace_bytes}
use Rattle.trace.specs.Traced.{run_traced}
use Rattle.trace.specs.Call.{room_of, run_on}
use Rattle.trace.specs.Kinds.{all_kinds, act_kinds}
use Rattle.trace.specs.Theorems.{act_record, EventsThenAct, TellsBefore, BeforeTold, EffectsBefore, InOrder, OnlyAsked, ShortUntaken}
use Rattle.trace.specs.Theorems.{EightFree, NeverShort, GoesOn, acts_of, OneAct, FewerKinds, ClosesAsRun, CallAnswers, TraceLeft}
use Rattle.trace.proofs.Steps.{next-acts, asked-append, traced-all, traced-act}
use Rattle.run_laws.proofs.Roomed.{onward-cases, awake-of, room-zero, room_next, room-run, room-records, room-le, records-fit}
use Rattle.run_laws.proofs.Roomed.{stops, roomy-run, room-slices}
use Rattle.trace.proofs.Runs.{one-act, fewer-run, fewer-records}
use Rattle.trace.proofs.Before.{events-before, events-devices, events-apart}
use Rattle.trace.proofs.Enough.{eight-free, room-enough}
use Rattle.trace.proofs.Bytes.{trace-tail, trace-record}
use Rattle.trace.proofs.Calls.{refused-call, accepted-call, accepted-passed, call-memory, call-state}

-- ---- the records of a step

events-first : (s : State) (k : ℕ) (ev : List Event) (t : State) → Each (λ (x : Entry). x.kind ≡ 0) (events_traced s k ev t)
unfolding events_traced
events-first s k [] t = tt
events-first s k (e ∷ es) t =
    bool_cases (eqb e.step k)
    (λ q. rw q (refl, events-first s k es (event_on e t)))
    (λ q. rw q (events-first s k es t))

pub events-then-act : EventsThenAct
unfolding step_traced
events-then-act ev s live =
    let acts = next-acts ev s live in
    record { whole = traced-all ev s live; events = events-first s s.count ev s; act = (acts.1, acts.0) }

-- every record that is made of the state before the step tells it
told : (s : State) (k n a v : ℕ) → TellsBefore s (entry s k n a v)
told s k n a v = record { step = refl; pc_is = refl; sp_is = refl; psw_is = refl }

events-told : (s : State) (k : ℕ) (ev : List Event) (t : State) → Each (TellsBefore s) (events_traced s k ev t)
unfolding events_traced
events-told s k [] t = tt
events-told s k (e ∷ es) t =
    bool_cases (eqb e.step k)
    (λ q. rw q (told s _ _ _ _, events-told s k es (event_on e t)))
    (λ q. rw q (events-told s k es t))

-- what each of a list has, each of those asked for has, and each of two lists joined
each-asked : (P : Entry → Type 0) (ks : ℕ) (xs : List Entry) → Each P xs → Each P (asked ks xs)
unfolding asked
each-asked P ks [] h = tt
each-asked P ks (x ∷ xs) h =
    bool_cases (bit_of x.kind ks)
    (λ q. rw q (h.0, each-asked P ks xs h.1))
    (λ q. rw q (each-asked P ks xs h.1))

each_append : (P : Entry → Type 0) (xs ys : List Entry) → Each P xs → Each P ys → Each P (xs ++ ys)
each_append P [] ys f g = g
each_append P (x ∷ xs) ys f g = (f.0, each_append P xs ys f.1 g)

pub before-told : BeforeTold
unfolding traced_of step_traced
before-told ks ev s =
    each-asked (TellsBefore s) ks (step_traced ev s)
    (each_append (TellsBefore s) (events_traced s s.count ev s) (act_record ev s ∷ []) (events-told s s.count ev s)
    (told s _ _ _ _, tt))

pub effects-before : EffectsBefore
effects-before = events-before

-- ---- the records of a run

pub in_order : InOrder
in_order ks ev s k n = room-records (traced_of ks ev) ev s k n

-- a set of kinds, as each record of a filtered list has it
abbrev Asked : ℕ → Entry → Type 0
Asked ks x = bit_of x.kind ks ≡ true

only : (ks : ℕ) (xs : List Entry) → Each (Asked ks) (asked ks xs)
unfolding asked
only ks [] = tt
only ks (x ∷ xs) = bool_cases (bit_of x.kind ks) (λ q. rw q (q, only ks xs)) (λ q. rw q (only ks xs))

only-traced : (ks : ℕ) (ev : List Event) (s : State) → Each (Asked ks) (traced_of ks ev s)
unfolding traced_of
only-traced ks ev s = only ks (step_traced ev s)

pub only-asked : OnlyAsked
only-asked ks ev s k zero = rw (room-zero (traced_of ks ev) ev s k) tt
only-asked ks ev s k (suc n) =
    let x = run_traced ks ev s k n in
    rw (room_next (traced_of ks ev) ev s k n)
    (onward-cases (traced_of ks ev) ev k x (λ y. Each (Asked ks) y.records)
    (λ q. only-asked ks ev s k n)
    (λ q l. only-asked ks ev s k n)
    (λ q l. each_append (Asked ks) x.records (traced_of ks ev x.state) (only-asked ks ev s k n) (only-traced ks ev x.state)))

pub short-untaken : ShortUntaken
short-untaken ks ev s k n q =
    let h = stops (traced_of ks ev) ev s k n q in
    record {
      reason = rw q refl;
      before = h.before;
      live = h.live;
      past = h.past;
      state = ap (λ r. r.state) (room-run (traced_of ks ev) ev s k n);
    }

pub eight-stay-free : EightFree
eight-stay-free ks ev s k n o a q = eight-free ks ev s k n o a q

pub never-short : NeverShort
never-short ks ev s k n h = room-enough ks ev s k n h

pub goes_on : GoesOn
goes_on ks ev s k n K N w h = room-slices (traced_of ks ev) ev s k K n N w h

-- ---- the three laws

acts-in-order : (ev : List Event) (s : State) (k n : ℕ)
    → asked act_kinds (run_traced all_kinds ev s k n).records ≡ acts_of ev s (run_traced all_kinds ev s k n).steps
unfolding asked acts_of
acts-in-order ev s k zero = rw (room-zero (traced_of all_kinds ev) ev s k) refl
acts-in-order ev s k (suc n) =
    let x = run_traced all_kinds ev s k n in
    rw (room_next (traced_of all_kinds ev) ev s k n)
    (onward-cases (traced_of all_kinds ev) ev k x (λ y. asked act_kinds y.records ≡ acts_of ev s y.steps)
    (λ q. acts-in-order ev s k n)
    (λ q l. acts-in-order ev s k n)
    (λ q l.
    asked-append act_kinds x.records (traced_of all_kinds ev x.state)
    ∙ (λ i. acts-in-order ev s k n i ++ traced-act ev x.state (awake-of x q) i)
    ∙ ap (λ r. acts_of ev s x.steps ++ act_record ev r.state ∷ []) (room-run (traced_of all_kinds ev) ev s k n)))

pub one-act-each : OneAct
one-act-each ev s k n = record { acts = acts-in-order ev s k n; as_many = one-act ev s k n }

pub fewer-kinds : FewerKinds
fewer-kinds ev s a b j k n f p q = record { run = fewer-run ev s a b f j k n p q; records = fewer-records ev s a b f j k n p q }

pub closes-as-run : ClosesAsRun
closes-as-run ks ev s k n =
    record {
      run = room-run (traced_of ks ev) ev s k n;
      few = room-le (traced_of ks ev) ev s k n;
      whole = roomy-run (traced_of ks ev) ev s k n;
      logged = λ room h q.
          roomy-run (traced_of ks ev) ev s k n q ∙ sym (log.roomy-run ev s room n (log.room-enough ev s room n h));
    }

-- ---- the call

pub call-answers : CallAnswers
call-answers memory r events trace ks n =
    record {
      refused = refused-call memory r events trace ks n;
      accepted = accepted-call memory r events trace ks n;
      memory_is = call-memory memory r events trace ks n;
      state_is = call-state memory r events trace ks n;
    }

pub trace-left : TraceLeft
trace-left memory r events trace ks n h =
    let ev = events_of events in
    let s = state_in r memory in
    let x = run_on memory r events trace ks n in
    let c = ap (λ y. y.trace) (accepted-call memory r events trace ks n h) in
    let p = accepted-passed memory r events trace ks n h in
    let f = records-fit (traced_of ks ev) ev s (room_of trace) n in
    let fits : 16 * length x.records ≤ length trace = omega arith in
    record {
      size = ap length c ∙ length-sets trace 0 (trace_bytes x.records);
      fits = fits;
      records = λ none j i l m. ap (λ b. byte_at b (16 * j + i)) c ∙ trace-record trace x.records fits none j i l m;
      kept = λ i l. ap (λ b. byte_at b i) c ∙ trace-tail trace x.records fits i l;
      free = eight-free ks ev s (room_of trace) n (events-devices events p.devices) (events-apart events p.no_twins);
    }
