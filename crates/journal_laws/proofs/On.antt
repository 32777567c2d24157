-- Running on again, by any runs. Whatever a run did, it went from k steps earlier to as many less, since each step's due events
-- are the same; and a run that is asked for steps with a lawful list and a log long enough is accepted and does them.
-- Assumes nothing.
use Prim.Native.Nat.{ℕ, zero, suc, ◌+◌, ◌-◌, ◌<◌, ◌≤◌}
use native.Mathlib.Nat.{add-zero}
use native.Mathlib.Omega.{arith}
use mathlib.Core.Bool.{false, cond}
use mathlib.Core.List.{List, [], ◌∷◌}
use mathlib.Core.Path.{◌≡◌, refl, sym, ap, subst, ◌∙◌}
use lib.ListN.{drop}
use Rattle.std.specs.Prelude.{Ok}
use Rattle.machine.specs.State.{State}
use Rattle.machine.specs.Record.{state_in, record_of}
use Rattle.machine.specs.Events.{Event, events_of}
use Rattle.machine.specs.Run.{Run, ran, run_of}
use Rattle.machine.specs.Logged.{Logged}
use Rattle.machine.specs.Refusal.{verdict_of, call_verdict, accepted?}
use Rattle.machine.specs.Call.{Closing, room_of, run_on}
use Rattle.machine_laws.specs.Bounds.{Each, Bytes, Tidy}
use Rattle.machine_laws.proofs.Cases.{bool_cases}
use Rattle.machine_laws.proofs.Records.{passed, record-written, record-read, record_bytes, not-zero, accepted-is}
use Rattle.machine_laws.proofs.Runs.{run-zero}
use Rattle.run_laws.proofs.Room.{logged-run, logged-le, records-enough, roomy-run}
use Rattle.run_laws.proofs.Verdicts.{call-start, call-accepts}
use Rattle.run_laws.proofs.Calls.{accepted-call, refused-call}
use Rattle.journal.specs.Ring.{Journal, places_of, journal_after}
use Rattle.journal.specs.Back.{Lent, lent_of, back_of}
use Rattle.journal.specs.Call.{JournalClosing, BackClosing, back_verdict, back_call_of}
use Rattle.journal.proofs.Ring.{RingFits, fits-ring, lowered-lt, keep-fits}
use Rattle.journal.proofs.Calls.{after-zero, after_next, journal-call, journal-accepts, journal-answer, journal-refused}
use Rattle.journal.proofs.Calls.{back-passed, back-answer}
use Rattle.journal_laws.specs.Past.{Past, next, Recalls, SameDue, earlier}
use Rattle.journal_laws.specs.Session.{Call, lent_after, Course, without, earlier_by, course_from, Began, Found}
use Rattle.journal_laws.specs.On.{Way, plain, keeping, Leg, verdict_by, left_by, leg_verdict, leg_left, leg_steps, ran_on, Part, part, did}
use Rattle.journal_laws.specs.On.{asked, total, DueAgain, Again, RunsOn, LawfulLeg, LongEnough, LogsEnough, AllAccepted, RunsOnAgain}
use Rattle.journal_laws.proofs.Recall.{recalls-most, back-journal}
use Rattle.journal_laws.proofs.Again.{next-tidy, next-count, earlier-found, earlier-tidy, earlier-count, again_part}
use Rattle.journal_laws.proofs.Accepted.{verdict-again}
use Rattle.journal_laws.proofs.Session.{told, goes_back, memory-in, split-kept, course-lent}

-- ---- one run, by either call

-- accepted, it leaves what its steps lead to; refused, what is lent
record Ran (z : Lent) (y : Logged) : Type 0 where
  memory : z.memory ≡ y.state.mem
  state : z.state ≡ record_of y.state

record Same (z z' : Lent) : Type 0 where
  memory : z'.memory ≡ z.memory
  state : z'.state ≡ z.state

ran-by : (w : Way) (events log : List ℕ) (n : ℕ) (z : Lent) → verdict_by w events log n z ≡ Ok tt
    → Ran (left_by w events log n z) (run_on z.memory z.state events log n)
ran-by plain events log n z a =
    let e = accepted-call z.memory z.state events log n a in
    record { memory = ap (λ (c : Closing). c.memory) e; state = ap (λ (c : Closing). c.state) e }
ran-by keeping events log n z a =
    let e = journal-answer z.memory z.state events log z.journal n a in
    record { memory = ap (λ (c : JournalClosing). c.closing.memory) e; state = ap (λ (c : JournalClosing). c.closing.state) e }

call_by : (w : Way) (events log : List ℕ) (n : ℕ) (z : Lent) → verdict_by w events log n z ≡ Ok tt
    → call_verdict z.memory z.state events log n ≡ Ok tt
call_by plain events log n z a = a
call_by keeping events log n z a = journal-call z.memory z.state events log z.journal n a

same_by : (w : Way) (events log : List ℕ) (n : ℕ) (z : Lent) → accepted? (verdict_by w events log n z) ≡ false
    → Same z (left_by w events log n z)
same_by plain events log n z q =
    let e = refused-call z.memory z.state events log n (not-zero (call_verdict z.memory z.state events log n) q) in
    record { memory = ap (λ (c : Closing). c.memory) e; state = ap (λ (c : Closing). c.state) e }
same_by keeping events log n z q =
    let e = journal-refused z.memory z.state events log z.journal n q in
    record { memory = ap (λ (c : JournalClosing). c.closing.memory) e; state = ap (λ (c : JournalClosing). c.closing.state) e }

-- its steps
steps-refused : (a : Leg) (z : Lent) → accepted? (leg_verdict a z) ≡ false → leg_steps a z ≡ 0
steps-refused a z q = ap (λ u. cond u (run_on z.memory z.state a.events a.log a.n).steps 0) q

steps-accepted : (a : Leg) (z : Lent) → leg_verdict a z ≡ Ok tt
    → leg_steps a z ≡ (run_on z.memory z.state a.events a.log a.n).steps
steps-accepted a z v = ap (λ u. cond (accepted? u) (run_on z.memory z.state a.events a.log a.n).steps 0) v

steps-le : (a : Leg) (z : Lent) → leg_steps a z ≤ a.n
steps-le a z =
    bool_cases (accepted? (leg_verdict a z))
    (λ q. rw (steps-accepted a z (accepted-is (leg_verdict a z) q))
    (logged-le (events_of a.events) (state_in z.state z.memory) (room_of a.log) a.n))
    (λ q. let e = steps-refused a z q in omega arith)

-- ---- the state k steps earlier

-- what is lent holds a state in bounds, and the journal recalls k steps to it
record Holds (y : Lent) (h : List Past) (k : ℕ) : Type 0 where
  state : State
  tidy : Tidy state
  count : state.count ≤ 4294967295
  lent : y ≡ lent_of state.mem (record_of state) y.journal
  recalls : Recalls (lent_of state.mem (record_of state) y.journal) h k

holds : (k : ℕ) (y : Lent) (h : List Past) → 0 < k → Recalls y h k → Holds y h k
holds zero y h l w = absurd (omega arith)
holds (suc k) y [] l w = absurd w
holds (suc k) y (t ∷ h) l w =
    let n = w.0 in
    let e : y ≡ lent_of (next t).mem (record_of (next t)) y.journal = λ i. lent_of (n.memory i) (n.state i) y.journal in
    record {
      state = next t;
      tidy = next-tidy t n.taken;
      count = next-count t n.taken;
      lent = e;
      recalls = subst (λ x. Recalls x (t ∷ h) (suc k)) e w;
    }

-- the course k steps earlier
abbrev before : ℕ → Lent → List Past → Course
before k y h = without k y.memory y.state h

fewer : (k d : ℕ) (y : Lent) (h : List Past) → d ≤ k → Recalls y h k → Recalls y h (k - d)
fewer k d y h l w = let e : k ≡ (k - d) + d = omega arith in recalls-most (k - d) d y h (subst (Recalls y h) e w)

module _ (k : ℕ) (y : Lent) (h : List Past) (H : Holds y h k) where
  abbrev s : State
  s = H.state

  fewer-held : (d : ℕ) → d ≤ k → Holds y h (k - d)
  fewer-held d l =
      record {
        state = s;
        tidy = H.tidy;
        count = H.count;
        lent = H.lent;
        recalls = fewer k d (lent_of s.mem (record_of s) y.journal) h l H.recalls;
      }

  -- in bounds, and read back from its record and its memory
  bounds : (Tidy (earlier s h k)) × ((earlier s h k).count ≤ 4294967295)
  bounds =
      let e = sym (add-zero k) in
      earlier-tidy k 0 s y.journal h H.tidy H.count (subst (Recalls (lent_of s.mem (record_of s) y.journal) h) e H.recalls)

  before-memory : (i : ℕ) → (before i y h).memory ≡ (earlier s h i).mem
  before-memory i = ap (λ x. (before i x h).memory) H.lent ∙ (earlier-found i s h).0

  before-state : (i : ℕ) → (before i y h).state ≡ record_of (earlier s h i)
  before-state i = ap (λ x. (before i x h).state) H.lent ∙ (earlier-found i s h).1

  held : (z : Lent) → Found z (before k y h) → state_in z.state z.memory ≡ earlier s h k
  held z f =
      (λ i. state_in ((f.state ∙ before-state k) i) ((f.memory ∙ before-memory k) i))
      ∙ (let (tidy, count) = bounds in record-read (earlier s h k) tidy count)

  -- d steps from there, each step's due events the same
  goes : (ev : List Event) (d : ℕ) (z : Lent) → d ≤ k → Found z (before k y h) → SameDue ev (drop (k - d) h) d
      → run_of ev (state_in z.state z.memory) d ≡ ran (earlier s h (k - d)) d
  goes ev d z l f due =
      let e : k ≡ (k - d) + d = omega arith in
      ap (λ u. run_of ev u d) (held z f)
      ∙ ap (λ i. run_of ev (earlier s h i) d) e
      ∙ again_part ev (k - d) d s y.journal h H.tidy H.count
      (subst (Recalls (lent_of s.mem (record_of s) y.journal) h) e H.recalls) due

record-earlier : (k : ℕ) (memory state : List ℕ) (h : List Past) → Bytes state → Bytes (without k memory state h).state
record-earlier zero memory state h b = b
record-earlier (suc k) memory state [] b = b
record-earlier (suc k) memory state (t ∷ h) b = record-earlier k t.state.mem (record_of t.state) h (record_bytes t.state)

-- ---- whatever a run did

module _ (a : Leg) (k : ℕ) (y z : Lent) (h : List Past) (b : Bytes y.state) (w : Recalls y h k) (f : Found z (before k y h)) where
  abbrev ev : List Event
  ev = events_of a.events

  abbrev o : State
  o = state_in z.state z.memory

  abbrev X : Logged
  X = run_on z.memory z.state a.events a.log a.n

  state-then : (d : ℕ) → X.steps ≡ d → X.state ≡ (run_of ev o d).state
  state-then d e = ap (λ r. r.state) (logged-run ev o (room_of a.log) a.n) ∙ ap (λ i. (run_of ev o i).state) e

  z-bytes : Bytes z.state
  z-bytes = subst Bytes (sym f.state) (record-earlier k y.memory y.state h b)

  -- accepted: no step leaves all as it is, and d steps are d of those k
  went : (d : ℕ) → X.steps ≡ d → leg_verdict a z ≡ Ok tt → d ≤ k → SameDue ev (drop (k - d) h) d
      → Found (leg_left a z) (before (k - d) y h)
  went zero e v l due =
      let r = ran-by a.way a.events a.log a.n z v in
      let still = state-then 0 e ∙ ap (λ (x : Run). x.state) (run-zero ev o) in
      let P = passed z.memory z.state a.events a.n
      (call-start z.memory z.state a.events a.log a.n (call_by a.way a.events a.log a.n z v)) in
      let k-is : k ≡ k - 0 = omega arith in
      record {
        memory = r.memory ∙ ap (λ u. u.mem) still ∙ memory-in z.state z.memory ∙ f.memory ∙ ap (λ i. (before i y h).memory) k-is;
        state = r.state ∙ ap record_of still ∙ record-written z.memory z.state a.events a.n P z-bytes ∙ f.state
            ∙ ap (λ i. (before i y h).state) k-is;
      }
  went (suc d) e v l due =
      let r = ran-by a.way a.events a.log a.n z v in
      let H = holds k y h (omega arith) w in
      let on = state-then (suc d) e ∙ ap (λ x. x.state) (goes k y h H ev (suc d) z l f due) in
      record {
        memory = r.memory ∙ ap (λ u. u.mem) on ∙ sym (before-memory k y h H (k - suc d));
        state = r.state ∙ ap record_of on ∙ sym (before-state k y h H (k - suc d));
      }

  leg-goes : (d : ℕ) → leg_steps a z ≡ d → d ≤ k → SameDue ev (drop (k - d) h) d → Found (leg_left a z) (before (k - d) y h)
  leg-goes d e l due =
      bool_cases (accepted? (leg_verdict a z))
      (λ q. let v = accepted-is (leg_verdict a z) q in went d (sym (steps-accepted a z v) ∙ e) v l due) (λ q.
      let none = steps-refused a z q in
      let k-is : k ≡ k - d = omega arith in
      let same = same_by a.way a.events a.log a.n z q in
      record {
        memory = same.memory ∙ f.memory ∙ ap (λ i. (before i y h).memory) k-is;
        state = same.state ∙ f.state ∙ ap (λ i. (before i y h).state) k-is;
      })

-- and one run after the other
legs-go : (legs : List Leg) (k : ℕ) (y z : Lent) (h : List Past) → Bytes y.state → Recalls y h k → Found z (before k y h)
    → total (did legs z) ≤ k → DueAgain (did legs z) h k → Found (ran_on legs z) (before (k - total (did legs z)) y h)
unfolding ran_on did
legs-go [] k y z h b w f l due =
    let e : k ≡ k - 0 = omega arith in
    record { memory = f.memory ∙ ap (λ i. (before i y h).memory) e; state = f.state ∙ ap (λ i. (before i y h).state) e }
legs-go (a ∷ legs) k y z h b w f l due =
    let d = leg_steps a z in
    let n = total (did legs (leg_left a z)) in
    let (due-here, due-after) = due in
    let g = leg-goes a k y z h b w f d refl (omega arith) due-here in
    let rest = legs-go legs (k - d) y (leg_left a z) h b (fewer k d y h (omega arith) w) g (omega arith) due-after in
    let e : k - d - n ≡ k - (d + n) = omega arith in
    record { memory = rest.memory ∙ ap (λ i. (before i y h).memory) e; state = rest.state ∙ ap (λ i. (before i y h).state) e }

pub runs_on : RunsOn
runs_on x cs b k a legs l due =
    let y = lent_after cs x in
    let c = course_from cs x in
    let t = told x cs b in
    let z = (back_call_of k y).lent in
    let j = total (did legs z) in
    let same = course-lent y c t.found in
    let few = (back-passed k y a).few in
    let w = recalls-most k (y.journal.kept - k) y c.steps (split-kept k y c.steps few t.recalls) in
    let back = subst (λ (d : Course). Found z (earlier_by k d)) (sym same) (goes_back x cs b k a).found in
    let found = legs-go legs k y z c.steps t.state_bytes w back l due in
    let none : j ≡ k → k - j ≡ 0 = λ e. omega arith in
    record {
      found = subst (λ (d : Course). Found (ran_on legs z) (earlier_by (k - j) d)) same found;
      memory = λ e. found.memory ∙ ap (λ i. (before i y c.steps).memory) (none e);
      state = λ e. found.state ∙ ap (λ i. (before i y c.steps).state) (none e);
    }

-- ---- accepted, and with all its steps

-- the ring stays one that a call takes
after-fits : (ev : List Event) (s : State) (j : Journal) (n : ℕ) → RingFits j → RingFits (journal_after ev s j n)
after-fits ev s j zero f = subst RingFits (sym (after-zero ev s j)) f
after-fits ev s j (suc n) f = subst RingFits (sym (after_next ev s j n)) (keep-fits (journal_after ev s j n) (after-fits ev s j n f) _)

fits_by : (w : Way) (events log : List ℕ) (n : ℕ) (z : Lent) → verdict_by w events log n z ≡ Ok tt → RingFits z.journal
    → RingFits (left_by w events log n z).journal
fits_by plain events log n z a f = f
fits_by keeping events log n z a f =
    subst (λ (c : JournalClosing). RingFits c.journal) (sym (journal-answer z.memory z.state events log z.journal n a))
    (after-fits (events_of events) (state_in z.state z.memory) z.journal (run_on z.memory z.state events log n).steps f)

accepts-by : (w : Way) (events log : List ℕ) (n : ℕ) (z : Lent) → call_verdict z.memory z.state events log n ≡ Ok tt
    → RingFits z.journal → verdict_by w events log n z ≡ Ok tt
accepts-by plain events log n z a f = a
accepts-by keeping events log n z a f =
    journal-accepts z.memory z.state events log z.journal n a (fits-ring z.journal f)

-- a run of n of the k steps, from a state in bounds
module _ (a : Leg) (k : ℕ) (y z : Lent) (h : List Past) (H : Holds y h k) (few : k ≤ 1000000) (f : Found z (before k y h))
    (ring : RingFits z.journal) (lawful : LawfulLeg a) (l : a.n ≤ k)
    (due : SameDue (events_of a.events) (drop (k - a.n) h) a.n) (roomy : LongEnough a.log a.events a.n z) where
  leg-accepted : leg_verdict a z ≡ Ok tt
  leg-accepted =
      let s = H.state in
      let o = earlier s h k in
      let (tidy, low) = bounds k y h H in
      let count = earlier-count k s y.journal h H.tidy H.count H.recalls in
      let most = H.count in
      let start = verdict-again o tidy low a.events a.n lawful (omega arith) (omega arith) in
      let here : verdict_of z.memory z.state a.events a.n ≡ Ok tt =
      (λ i. verdict_of ((f.memory ∙ before-memory k y h H k) i) ((f.state ∙ before-state k y h H k) i) a.events a.n) ∙ start in
      accepts-by a.way a.events a.log a.n z
      (call-accepts z.memory z.state a.events a.log a.n here roomy.whole) ring

  leg-done : leg_steps a z ≡ a.n
  leg-done =
      let ev = events_of a.events in
      let o = state_in z.state z.memory in
      let room = room_of a.log in
      steps-accepted a z leg-accepted
      ∙ ap (λ r. r.steps) (roomy-run ev o room a.n (records-enough ev o room a.n roomy.enough))
      ∙ ap (λ r. r.steps) (goes k y h H ev a.n z l f due)

-- runs of some of the k steps, one after the other
legs-do : (legs : List Leg) (k : ℕ) (y z : Lent) (h : List Past) → Bytes y.state → Recalls y h k → Holds y h k → k ≤ 1000000
    → Found z (before k y h) → RingFits z.journal → Each LawfulLeg legs → total (asked legs) ≤ k → DueAgain (asked legs) h k
    → LogsEnough legs z → AllAccepted legs z × (did legs z ≡ asked legs)
unfolding did
legs-do [] k y z h b w H few f ring lawful l due roomy = (tt, refl)
legs-do (a ∷ legs) k y z h b w H few f ring lawful l due roomy =
    let n = a.n in
    let (due-here, due-after) = due in
    let v = leg-accepted a k y z h H few f ring lawful.0 (omega arith) due-here roomy.0 in
    let e = leg-done a k y z h H few f ring lawful.0 (omega arith) due-here roomy.0 in
    let g = leg-goes a k y z h b w f n e (omega arith) due-here in
    let (accepted, done) = legs-do legs (k - n) y (leg_left a z) h b (fewer k n y h (omega arith) w) (fewer-held k y h H n (omega arith))
    (omega arith) g (fits_by a.way a.events a.log n z v ring) lawful.1 (omega arith) due-after roomy.1 in (
      (v, accepted),
      λ i. part (events_of a.events) (e i) ∷ done i,
    )

-- runs of no steps do none
legs-idle : (legs : List Leg) (z : Lent) → total (asked legs) ≤ 0 → did legs z ≡ asked legs
unfolding did
legs-idle [] z l = refl
legs-idle (a ∷ legs) z l =
    let few = steps-le a z in
    let e : leg_steps a z ≡ a.n = omega arith in
    λ i. part (events_of a.events) (e i) ∷ legs-idle legs (leg_left a z) (omega arith) i

-- the journal that going back leaves is one that a call takes
back_fits : (k : ℕ) (y : Lent) → back_verdict k y ≡ Ok tt → RingFits (back_of k y).journal
back_fits k y a =
    let ac = back-passed k y a in
    let f = ac.ring in
    let few = ac.few in
    let kept = f.kept in
    let r = places_of y.journal.bytes in
    let n = back-journal k y f.place (omega arith) in
    let lower = lowered-lt r y.journal.place k f.place (omega arith) in
    subst RingFits (sym n) (record { small = f.small; whole = f.whole; kept = omega arith; place = lower })

-- by either way the runs do what they are asked for
legs-done : (x : Lent) (cs : List Call) → Began x cs → (k : ℕ) → back_verdict k (lent_after cs x) ≡ Ok tt
    → (legs : List Leg) → Each LawfulLeg legs → total (asked legs) ≤ k → DueAgain (asked legs) (course_from cs x).steps k
    → LogsEnough legs (back_call_of k (lent_after cs x)).lent
    → (0 < k → AllAccepted legs (back_call_of k (lent_after cs x)).lent) × (did legs (back_call_of k (lent_after cs x)).lent ≡ asked legs)
legs-done x cs b zero a legs lawful l due roomy =
    (λ h. absurd (omega arith), legs-idle legs (back_call_of 0 (lent_after cs x)).lent l)
legs-done x cs b (suc i) a legs lawful l due roomy =
    let k = suc i in
    let y = lent_after cs x in
    let c = course_from cs x in
    let t = told x cs b in
    let z = (back_call_of k y).lent in
    let ac = back-passed k y a in
    let few = ac.few in
    let kept = ac.ring.kept in
    let small = ac.ring.small in
    let w = recalls-most k (y.journal.kept - k) y c.steps (split-kept k y c.steps few t.recalls) in
    let back = subst (λ (d : Course). Found z (earlier_by k d)) (sym (course-lent y c t.found)) (goes_back x cs b k a).found in
    let ring = subst (λ (d : BackClosing). RingFits d.lent.journal) (sym (back-answer k y a)) (back_fits k y a) in
    let H = holds k y c.steps (omega arith) w in
    let (accepted, done) = legs-do legs k y z c.steps t.state_bytes w H (omega arith) back ring lawful l due roomy in
    (λ h. accepted, done)

pub runs-on-again : RunsOnAgain
runs-on-again x cs b k a legs lawful l due roomy =
    let y = lent_after cs x in
    let c = course_from cs x in
    let z = (back_call_of k y).lent in
    let (accepted, e) = legs-done x cs b k a legs lawful l due roomy in
    record {
      accepted = accepted;
      steps = e;
      again = subst (λ (p : List Part). Again k (total p) c y (ran_on legs z)) e
          (runs_on x cs b k a legs (subst (λ (p : List Part). total p ≤ k) (sym e) l)
          (subst (λ (p : List Part). DueAgain p c.steps k) (sym e) due));
    }
