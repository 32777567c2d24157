-- The promises of a session. What is told of it, its course, holds at the start and is kept by each call, accepted or
-- refused; going back k is then k steps back on the course. Assumes nothing.
use Prim.Native.Nat.{ℕ, zero, suc, ◌+◌, ◌-◌, ◌≤◌}
use native.Mathlib.Nat.{suc-add}
use native.Mathlib.Omega.{arith}
use mathlib.Core.Bool.{Bool, true, false, cond}
use mathlib.Core.List.{List, [], ◌∷◌}
use mathlib.Core.Path.{◌≡◌, refl, sym, ap, subst, ◌∙◌}
use lib.ListN.{drop}
use Rattle.std.specs.Prelude.{Ok}
use Rattle.machine.specs.State.{State}
use Rattle.machine.specs.Record.{state_in, record_of}
use Rattle.machine.specs.Events.{Event, events_of}
use Rattle.machine.specs.Run.{Run, run_of}
use Rattle.machine.specs.Logged.{Logged, ran_of}
use Rattle.machine.specs.Refusal.{call_verdict}
use Rattle.machine.specs.Call.{room_of, run_on}
use Rattle.machine_laws.specs.Bounds.{Each, Bytes}
use Rattle.machine_laws.specs.Passed.{Passed}
use Rattle.machine_laws.proofs.Cases.{bool_cases}
use Rattle.machine_laws.proofs.Records.{passed, start-tidy, start-count, events-fit, record-written, record_bytes, accepted-is}
use Rattle.machine_laws.proofs.Steps.{run-tidy}
use Rattle.run_laws.proofs.Room.{logged-run, logged-le}
use Rattle.run_laws.proofs.Verdicts.{call-start}
use Rattle.journal.specs.Ring.{journal_after}
use Rattle.journal.specs.Back.{Lent, lent_of, back_of}
use Rattle.journal.specs.Call.{JournalClosing, BackClosing, journal_verdict, back_verdict}
use Rattle.journal.proofs.Calls.{back-zero, back-suc, journal-call, journal-ring, journal-answer, journal-refused}
use Rattle.journal.proofs.Calls.{back-passed, back-answer, back-refused}
use Rattle.journal_laws.specs.Past.{Past, rewound, Recalls, pasts_of}
use Rattle.journal_laws.specs.Session.{Call, runs, backs, left, taken?, lent_after, CallBytes, Began, GoesBack, KeepsCourse}
use Rattle.journal_laws.specs.Session.{Course, course_of, course_after, course_in, course_from, Found, WentBack}
use Rattle.journal_laws.proofs.Recall.{run-recalls, one-back, back-recalls, back-journal, back_earlier, earlier-steps}

-- ---- the invariant of a session

-- what is lent is the course's, bytes, and recalled as far as the number kept goes
pub record Told (x : Lent) (c : Course) : Type 0 where
  pub memory_bytes : Bytes x.memory
  pub state_bytes : Bytes x.state
  pub found : Found x c
  pub recalls : Recalls x c.steps x.journal.kept

pub memory-in : (r memory : List ℕ) → (state_in r memory).mem ≡ memory
unfolding state_in
memory-in r memory = refl

-- an accepted run call
module _ (events log : List ℕ) (n : ℕ) (x : Lent) (h : List Past) (be : Bytes events) (t : Told x (course_of x.memory x.state h))
    (ok : journal_verdict x.memory x.state events log x.journal n ≡ Ok tt) where
  abbrev ev : List Event
  ev = events_of events

  abbrev s : State
  s = state_in x.state x.memory

  abbrev X : Logged
  X = run_on x.memory x.state events log n

  call_ok : call_verdict x.memory x.state events log n ≡ Ok tt
  call_ok = journal-call x.memory x.state events log x.journal n ok

  P : Passed x.memory x.state events n
  P = passed x.memory x.state events n (call-start x.memory x.state events log n call_ok)

  run_is : ran_of X ≡ run_of ev s X.steps
  run_is = logged-run ev s (room_of log) n

  left_is : left (runs events log n) x
      ≡ lent_of (run_of ev s X.steps).state.mem (record_of (run_of ev s X.steps).state) (journal_after ev s x.journal X.steps)
  left_is =
      ap (λ (y : JournalClosing). lent_of y.closing.memory y.closing.state y.journal)
      (journal-answer x.memory x.state events log x.journal n ok)
      ∙ ap (λ (r : Run). lent_of r.state.mem (record_of r.state) (journal_after ev s x.journal X.steps)) run_is

  -- what is lent is the state that its record holds
  as-state : x ≡ lent_of s.mem (record_of s) x.journal
  as-state =
      let e = record-written x.memory x.state events n P t.state_bytes in
      λ i. lent_of (sym (memory-in x.state x.memory) i) (sym e i) x.journal

  -- memory and record are those that the steps lead to
  found-run : Found (left (runs events log n) x) (course_after (runs events log n) (course_of x.memory x.state h))
  found-run =
      let e = journal-answer x.memory x.state events log x.journal n ok in
      record { memory = ap (λ (y : JournalClosing). y.closing.memory) e; state = ap (λ (y : JournalClosing). y.closing.state) e }

  recalls-run : Recalls (left (runs events log n) x) (pasts_of ev s X.steps h) (left (runs events log n) x).journal.kept
  recalls-run =
      let fit = events-fit x.memory x.state events n P be in
      let tidy = start-tidy x.memory x.state events n P t.memory_bytes t.state_bytes in
      let c = start-count x.state x.memory in
      let f = P.count_fits in
      let l = logged-le ev s (room_of log) n in
      let w = subst (λ y. Recalls y h y.journal.kept) as-state t.recalls in
      subst (λ y. Recalls y (pasts_of ev s X.steps h) y.journal.kept) (sym left_is)
      (run-recalls ev s x.journal X.steps h fit tidy (omega arith) (ap (λ r. r.steps) (sym run_is))
      (journal-ring x.memory x.state events log x.journal n ok) w).1

  told-run : Told (left (runs events log n) x) (course_after (runs events log n) (course_of x.memory x.state h))
  told-run =
      let fit = events-fit x.memory x.state events n P be in
      let tidy = start-tidy x.memory x.state events n P t.memory_bytes t.state_bytes in
      let end = run-tidy ev s X.steps fit tidy in
      record {
        memory_bytes = subst (λ y. Bytes y.memory) (sym left_is) end.bytes;
        state_bytes = subst (λ y. Bytes y.state) (sym left_is) (record_bytes (run_of ev s X.steps).state);
        found = found-run;
        recalls = recalls-run;
      }

-- going back
pub back-bytes : (k n : ℕ) (x : Lent) (h : List Past) → Bytes x.memory → Bytes x.state → Recalls x h (k + n)
    → Bytes (back_of k x).memory × Bytes (back_of k x).state
back-bytes zero n x h a b w = subst (λ y. Bytes y.memory × Bytes y.state) (sym (back-zero x)) (a, b)
back-bytes (suc k) n x [] a b w = absurd (subst (Recalls x []) (suc-add k n) w)
back-bytes (suc k) n x (t ∷ h) a b w =
    let v = subst (Recalls x (t ∷ h)) (suc-add k n) w in
    let d = v.0.taken.tidy in
    subst (λ y. Bytes y.memory × Bytes y.state) (sym (back-suc k x ∙ ap (back_of k) (one-back x t v.0)))
    (back-bytes k n (rewound x t) h d.bytes (record_bytes t.state) v.1)

-- the number kept is k and what is left
pub split-kept : (k : ℕ) (x : Lent) (h : List Past) → k ≤ x.journal.kept → Recalls x h x.journal.kept
    → Recalls x h (k + (x.journal.kept - k))
split-kept k x h l w = let e : x.journal.kept ≡ k + (x.journal.kept - k) = omega arith in subst (Recalls x h) e w

told_back : (k : ℕ) (x : Lent) (h : List Past) → Told x (course_of x.memory x.state h) → back_verdict k x ≡ Ok tt
    → Told (back_of k x) (course_after (backs k) (course_of x.memory x.state h))
told_back k x h t e =
    let ac = back-passed k x e in
    let f = ac.ring in
    let g = f.kept in
    let l = ac.few in
    let w = split-kept k x h l t.recalls in
    let (memory, state) = back-bytes k (x.journal.kept - k) x h t.memory_bytes t.state_bytes w in
    let n = back-journal k x f.place (omega arith) in
    record {
      memory_bytes = memory;
      state_bytes = state;
      found = (back_earlier k (x.journal.kept - k) x h w).found;
      recalls = subst (λ l. Recalls (back_of k x) l (back_of k x).journal.kept) (sym (earlier-steps k x.memory x.state h))
          (subst (Recalls (back_of k x) (drop k h)) (sym (ap (λ y. y.kept) n)) (back-recalls k (x.journal.kept - k) x h w));
    }

-- an accepted call, and any call
told-accepted : (a : Call) (x : Lent) (h : List Past) → CallBytes a → Told x (course_of x.memory x.state h) → taken? a x ≡ true
    → Told (left a x) (course_after a (course_of x.memory x.state h))
told-accepted (runs events log n) x h b t q =
    told-run events log n x h b t (accepted-is (journal_verdict x.memory x.state events log x.journal n) q)
told-accepted (backs k) x h b t q =
    let a = accepted-is (back_verdict k x) q in
    subst (λ (z : BackClosing). Told z.lent (course_after (backs k) (course_of x.memory x.state h))) (sym (back-answer k x a))
    (told_back k x h t a)

left-refused : (a : Call) (x : Lent) → taken? a x ≡ false → left a x ≡ x
left-refused (runs events log n) x q =
    ap (λ (y : JournalClosing). lent_of y.closing.memory y.closing.state y.journal)
    (journal-refused x.memory x.state events log x.journal n q)
left-refused (backs k) x q = ap (λ (z : BackClosing). z.lent) (back-refused k x q)

-- the course has what is lent
pub course-lent : (x : Lent) (c : Course) → Found x c → course_of x.memory x.state c.steps ≡ c
course-lent x c f = λ i. course_of (f.memory i) (f.state i) c.steps

told-call : (a : Call) (x : Lent) (c : Course) → CallBytes a → Told x c → Told (left a x) (cond (taken? a x) (course_after a c) c)
told-call a x c b t =
    let e = course-lent x c t.found in
    bool_cases (taken? a x)
    (λ q. subst (λ (v : Bool). Told (left a x) (cond v (course_after a c) c)) (sym q)
    (subst (λ (d : Course). Told (left a x) (course_after a d)) e (told-accepted a x c.steps b (subst (Told x) (sym e) t) q)))
    (λ q. subst (λ (v : Bool). Told (left a x) (cond v (course_after a c) c)) (sym q) (subst (λ y. Told y c) (sym (left-refused a x q)) t))

told-session : (cs : List Call) (x : Lent) (c : Course) → Each CallBytes cs → Told x c → Told (lent_after cs x) (course_in cs x c)
unfolding lent_after course_in
told-session [] x c b t = t
told-session (a ∷ cs) x c b t =
    told-session cs (left a x) (cond (taken? a x) (course_after a c) c) b.1 (told-call a x c b.0 t)

pub told : (x : Lent) (cs : List Call) → Began x cs → Told (lent_after cs x) (course_from cs x)
told x cs b =
    told-session cs x (course_of x.memory x.state []) b.calls_bytes
    (record {
      memory_bytes = b.memory_bytes;
      state_bytes = b.state_bytes;
      found = record { memory = refl; state = refl };
      recalls = subst (Recalls x []) (sym b.nothing_kept) tt;
    })

-- ---- going back gives what was there

pub keeps-course : KeepsCourse
keeps-course x cs b = (told x cs b).found

pub goes_back : GoesBack
goes_back x cs b k a =
    let y = lent_after cs x in
    let c = course_from cs x in
    let t = told x cs b in
    let w = split-kept k y c.steps (back-passed k y a).few t.recalls in
    subst (λ (z : BackClosing). WentBack k c z.lent) (sym (back-answer k y a))
    (subst (λ (d : Course). WentBack k d (back_of k y)) (course-lent y c t.found) (back_earlier k (y.journal.kept - k) y c.steps w))
