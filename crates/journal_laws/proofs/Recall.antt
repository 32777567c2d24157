-- The journal stands for the steps taken: at none kept, after a step, after going back. By one step the newest record is
-- that of the step and the others stay; by going back k the newest k are copied out, which are the states that those
-- steps found. Assumes nothing.
use Prim.Native.Nat.{ℕ, zero, suc, ◌+◌, ◌-◌, ◌*◌, ◌/◌, ◌<◌, ◌≤◌}
use native.Mathlib.Nat.{add-zero, add-suc, suc-add, zero-add}
use native.Mathlib.Omega.{arith}
use mathlib.Core.Bool.{false, cond}
use mathlib.Core.List.{List, [], ◌∷◌}
use mathlib.Core.Path.{◌≡◌, refl, sym, ap, subst, ◌∙◌}
use lib.Dec.{ltb}
use lib.ListN.{length, drop}
use lib.Seq.{sets, length-sets}
use Rattle.machine.specs.State.{State}
use Rattle.machine.specs.Record.{record_of}
use Rattle.machine.specs.Events.{Event}
use Rattle.machine.specs.Step.{step_of}
use Rattle.machine.specs.Run.{Run, run_of}
use Rattle.machine_laws.specs.Bounds.{Each, Tidy, EventFits}
use Rattle.machine_laws.proofs.Cases.{bool_cases, lt_of}
use Rattle.machine_laws.proofs.Runs.{run-zero, run-next, run-stays, steps-le}
use Rattle.machine_laws.proofs.Steps.{run-tidy, run-count}
use Rattle.journal.specs.Record.{journal_record, state_out, memory_out}
use Rattle.journal.specs.Ring.{Journal, journal_of, places_of, record_at, preceding, keep, journal_after}
use Rattle.journal.specs.Back.{Lent, lent_of, lowered, one_back, back_of, lowered_place}
use Rattle.journal_laws.specs.Past.{Past, past, Taken, Newest, rewound, Recalls, pasts_of}
use Rattle.journal_laws.specs.Session.{course_of, without, WentBack}
use Rattle.journal.proofs.Restore.{record-whole, state-back, memory-back}
use Rattle.journal.proofs.Calls.{after-zero, after_next, back-zero, back-suc}
use Rattle.journal.proofs.Ring.{record_same, record-other, RingFits, preceding-following, lowered-zero, preceding-lowered}
use Rattle.journal.proofs.Ring.{lowered-other, keep-places, keep-fits}

-- ---- none kept; fewer kept

pub recalls-none : (x : Lent) (h : List Past) → Recalls x h 0
recalls-none x h = tt

pub recalls-fewer : (k : ℕ) (x : Lent) (h : List Past) → Recalls x h (suc k) → Recalls x h k
recalls-fewer zero x h w = tt
recalls-fewer (suc k) x [] w = absurd w
recalls-fewer (suc k) x (t ∷ h) w = (w.0, recalls-fewer k (rewound x t) h w.1)

pub recalls-most : (k n : ℕ) (x : Lent) (h : List Past) → Recalls x h (k + n) → Recalls x h k
recalls-most zero n x h w = tt
recalls-most (suc k) n x [] w = absurd (subst (Recalls x []) (suc-add k n) w)
recalls-most (suc k) n x (t ∷ h) w =
    let v = subst (Recalls x (t ∷ h)) (suc-add k n) w in (v.0, recalls-most k n (rewound x t) h v.1)

-- ---- a step

module _ (b e : List ℕ) (p : ℕ) (l : length e ≡ 64) (i : p < places_of b) where
  abbrev r : ℕ
  r = places_of b

  abbrev b' : List ℕ
  b' = sets b (64 * p) e

  places_same : places_of b' ≡ r
  places_same = ap (λ n. n / 64) (length-sets b (64 * p) e)

  -- a record written at p leaves the fewer than r behind it
  walk : (k d q q' n n' : ℕ) (memory state : List ℕ) (h : List Past) → d + k < r → q ≡ lowered_place r p d → q' ≡ lowered_place r p d
      → Recalls (lent_of memory state (journal_of b n q)) h k
      → Recalls (lent_of memory state (journal_of b' n' q')) h k
  walk zero d q q' n n' memory state h f u v w = tt
  walk (suc k) d q q' n n' memory state [] f u v w = absurd w
  walk (suc k) d q q' n n' memory state (t ∷ h) f u v w =
      let c : preceding r q ≡ lowered_place r p (suc d) = ap (preceding r) u ∙ preceding-lowered r p d i (omega arith) in
      let c' : preceding (places_of b') q' ≡ lowered_place r p (suc d) =
      (λ o. preceding (places_same o) (v o)) ∙ preceding-lowered r p d i (omega arith) in (
        record {
          taken = w.0.taken;
          memory = w.0.memory;
          state = w.0.state;
          entry = ap (record_at b') c' ∙ record-other b e p l (lowered_place r p (suc d)) (lowered-other r p (suc d) i (omega arith)
              (omega arith))
              ∙ ap (record_at b) (sym c) ∙ w.0.entry;
        },
        walk k (suc d) (preceding r q) (preceding (places_of b') q') (n - 1) (n' - 1) t.state.mem (record_of t.state) h
            (omega arith) c c' w.1,
      )

-- what is lent after a step
abbrev pub stepped : List Event → State → Journal → Lent
stepped ev s j = lent_of (step_of ev s).mem (record_of (step_of ev s)) (keep (journal_record ev s) j)

module _ (ev : List Event) (s : State) (j : Journal) (h : List Past) (t : Taken (past s ev)) (f : RingFits j) where
  abbrev e : List ℕ
  e = journal_record ev s

  -- back from the place after p is p
  came : preceding (places_of (keep e j).bytes) (keep e j).place ≡ j.place
  unfolding keep
  came = ap (λ n. preceding n (keep e j).place) (keep-places j f e) ∙ preceding-following (places_of j.bytes) j.place f.place

  newest : Newest (stepped ev s j) (past s ev)
  unfolding keep
  newest =
      let a = f.whole in
      let c = f.place in
      record {
        taken = t;
        memory = refl;
        state = refl;
        entry = ap (record_at (keep e j).bytes) came ∙ record_same j.bytes e j.place (record-whole ev s) (omega arith);
      }

  kept_more : (k : ℕ) → k < places_of j.bytes → Recalls (lent_of s.mem (record_of s) j) h k
      → Recalls (stepped ev s j) (past s ev ∷ h) (suc k)
  unfolding keep
  kept_more k l w = (
    newest,
    walk j.bytes e j.place (record-whole ev s) f.place k 0 j.place (lowered (keep e j)).place j.kept (lowered
        (keep e j)).kept s.mem (record_of s) h (omega arith) (sym (lowered-zero (places_of j.bytes) j.place))
        (came ∙ sym (lowered-zero (places_of j.bytes) j.place)) w,
  )

  kept_full : (n : ℕ) → n ≤ places_of j.bytes → Recalls (lent_of s.mem (record_of s) j) h n → Recalls (stepped ev s j) (past s ev ∷ h) n
  kept_full zero l w = tt
  kept_full (suc k) l w = kept_more k (omega arith) (recalls-fewer k (lent_of s.mem (record_of s) j) h w)

  pub keep-recalls : Recalls (lent_of s.mem (record_of s) j) h j.kept
      → Recalls (stepped ev s j) (past s ev ∷ h) (keep e j).kept
  unfolding keep
  keep-recalls w =
      bool_cases (ltb j.kept (places_of j.bytes))
      (λ q. subst (λ c. Recalls (stepped ev s j) (past s ev ∷ h) (cond c (suc j.kept) j.kept)) (sym q) (kept_more j.kept
      (lt_of q) w))
      (λ q. subst (λ c. Recalls (stepped ev s j) (past s ev ∷ h) (cond c (suc j.kept) j.kept)) (sym q) (kept_full j.kept
      f.kept w))

-- ---- a run

-- steps that a run has done were taken from states that were not halted
steps-live : (ev : List Event) (s : State) (k n : ℕ) → (run_of ev s n).steps ≡ n → k < n → (run_of ev s k).state.halted ≡ false
steps-live ev s k n e h =
    bool_cases (run_of ev s k).state.halted
    (λ q.
    let n-is : k + (n - k) ≡ n = omega arith in
    let stays : (run_of ev s n).steps ≡ (run_of ev s k).steps = ap (λ i. (run_of ev s i).steps) (sym n-is)
    ∙ ap (λ r. r.steps) (run-stays ev s k (n - k) q) in
    let l = steps-le ev s k in
    absurd (omega arith))
    (λ q. q)

steps-fewer : (ev : List Event) (s : State) (n : ℕ) → (run_of ev s (suc n)).steps ≡ suc n → (run_of ev s n).steps ≡ n
steps-fewer ev s n e =
    let p = ap (λ r. r.steps) (run-next ev s n (steps-live ev s n (suc n) e (omega arith))) in
    omega arith

module _ (ev : List Event) (s : State) (j : Journal) where
  past-zero : (h : List Past) → pasts_of ev s 0 h ≡ h
  unfolding pasts_of
  past-zero h = refl

  past_next : (n : ℕ) (h : List Past) → pasts_of ev s (suc n) h ≡ past (run_of ev s n).state ev ∷ pasts_of ev s n h
  unfolding pasts_of
  past_next n h = refl

  abbrev at : ℕ → Lent
  at n = lent_of (run_of ev s n).state.mem (record_of (run_of ev s n).state) (journal_after ev s j n)

  -- a ring that fits, and that stands for the steps h
  abbrev Stands : Lent → List Past → Type 0
  Stands x h = RingFits x.journal × Recalls x h x.journal.kept

  -- after n steps the journal stands for them and those before
  pub run-recalls : (n : ℕ) (h : List Past) → Each EventFits ev → Tidy s → s.count + n ≤ 4294967295 → (run_of ev s n).steps ≡ n → RingFits j
      → Recalls (lent_of s.mem (record_of s) j) h j.kept
      → Stands (at n) (pasts_of ev s n h)
  run-recalls zero h e t c d f w =
      subst (Stands (at 0)) (sym (past-zero h))
      (subst (λ (x : Run). Stands (lent_of x.state.mem (record_of x.state) (journal_after ev s j 0)) h) (sym (run-zero ev s))
      (subst (λ (i : Journal). Stands (lent_of s.mem (record_of s) i) h) (sym (after-zero ev s j)) (f, w)))
  run-recalls (suc n) h e t c d f w =
      let u = (run_of ev s n).state in
      let few = steps-fewer ev s n d in
      let live = steps-live ev s n (suc n) d (omega arith) in
      let g = run-recalls n h e t (omega arith) few f w in
      let count = run-count ev s n in
      let taken : Taken (past u ev) = record { tidy = run-tidy ev s n e t; countable = omega arith; live = live; events = e } in
      let i = journal_after ev s j n in
      subst (Stands (at (suc n))) (sym (past_next n h))
      (subst (λ (x : Run). Stands (lent_of x.state.mem (record_of x.state) (journal_after ev s j (suc n)))
      (past u ev ∷ pasts_of ev s n h)) (sym (run-next ev s n live))
      (subst (λ (k : Journal). Stands (lent_of (step_of ev u).mem (record_of (step_of ev u)) k) (past u ev ∷ pasts_of ev s n h)) (sym
      (after_next ev s j n)) (keep-fits i g.0 (journal_record ev u), keep-recalls ev u i (pasts_of ev s n h) taken g.0 g.1)))

-- ---- going back

-- the newest record copied out gives what the newest step found
pub one-back : (x : Lent) (t : Past) → Newest x t → one_back x ≡ rewound x t
unfolding one_back
one-back x t w =
    let k = w.taken in
    let p = state-back t.events t.state in
    let q = memory-back t.events t.state k.events k.tidy in
    let c = w.entry in
    let d = w.memory in
    (λ i. lent_of (memory_out (c i) (d i)) (state_out (c i)) (lowered x.journal))
    ∙ (λ i. lent_of (q i) (p i) (lowered x.journal))

-- the steps that are left stay recalled
pub back-recalls : (k n : ℕ) (x : Lent) (h : List Past) → Recalls x h (k + n) → Recalls (back_of k x) (drop k h) n
back-recalls zero n x h w = subst (λ y. Recalls y h n) (sym (back-zero x)) (subst (Recalls x h) (zero-add n) w)
back-recalls (suc k) n x [] w = absurd (subst (Recalls x []) (suc-add k n) w)
back-recalls (suc k) n x (t ∷ h) w =
    let v = subst (Recalls x (t ∷ h)) (suc-add k n) w in
    subst (λ y. Recalls y (drop k h) n) (sym (back-suc k x ∙ ap (back_of k) (one-back x t v.0))) (back-recalls k n (rewound x t) h v.1)

one-lowers : (x : Lent) → (one_back x).journal ≡ lowered x.journal
unfolding one_back
one-lowers x = refl

-- the two numbers
back-numbers : (k d : ℕ) (x : Lent) (b : List ℕ) (n p : ℕ) → p < places_of b → d + k ≤ places_of b
    → x.journal ≡ journal_of b (n - d) (lowered_place (places_of b) p d)
    → (back_of k x).journal ≡ journal_of b (n - (d + k)) (lowered_place (places_of b) p (d + k))
back-numbers zero d x b n p h l e =
    ap (λ y. y.journal) (back-zero x) ∙ e ∙ ap (λ c. journal_of b (n - c) (lowered_place (places_of b) p c)) (sym (add-zero d))
back-numbers (suc k) d x b n p h l e =
    let c : n - d - 1 ≡ n - suc d = omega arith in
    let one : (one_back x).journal ≡ journal_of b (n - suc d) (lowered_place (places_of b) p (suc d)) =
    one-lowers x ∙ ap lowered e ∙ (λ i. journal_of b (c i) (preceding-lowered (places_of b) p d h (omega arith) i)) in
    ap (λ y. y.journal) (back-suc k x)
    ∙ back-numbers k (suc d) (one_back x) b n p h (omega arith) one
    ∙ ap (λ c. journal_of b (n - c) (lowered_place (places_of b) p c)) (suc-add d k ∙ sym (add-suc d k))

-- k lower, the place wrapping; the bytes stay
pub back-journal : (k : ℕ) (x : Lent) → x.journal.place < places_of x.journal.bytes → k ≤ places_of x.journal.bytes
    → (back_of k x).journal
    ≡ journal_of x.journal.bytes (x.journal.kept - k) (lowered_place (places_of x.journal.bytes) x.journal.place k)
back-journal k x h l =
    let j = x.journal in
    let r = places_of j.bytes in
    let c : j.kept - 0 ≡ j.kept = omega arith in
    back-numbers k 0 x j.bytes j.kept j.place h (omega arith)
    (λ i. journal_of j.bytes (sym c i) (sym (lowered-zero r j.place) i))
    ∙ ap (λ c. journal_of j.bytes (j.kept - c) (lowered_place r j.place c)) (zero-add k)

-- "going back k steps gives the state and all memory bytes as they were k steps earlier": what a journal recalls are steps of
-- the course, and copying k records out is taking k of them off
pub back_earlier : (k n : ℕ) (x : Lent) (h : List Past) → Recalls x h (k + n) → WentBack k (course_of x.memory x.state h) (back_of k x)
back_earlier zero n x h w =
    let e = back-zero x in
    record { enough = omega arith; found = record { memory = ap (λ y. y.memory) e; state = ap (λ y. y.state) e } }
back_earlier (suc k) n x [] w = absurd (subst (Recalls x []) (suc-add k n) w)
back_earlier (suc k) n x (t ∷ h) w =
    let v = subst (Recalls x (t ∷ h)) (suc-add k n) w in
    let e = back-suc k x ∙ ap (back_of k) (one-back x t v.0) in
    let g = back_earlier k n (rewound x t) h v.1 in
    let l = g.enough in
    record {
      enough = omega arith;
      found = record { memory = ap (λ y. y.memory) e ∙ g.found.memory; state = ap (λ y. y.state) e ∙ g.found.state };
    }

-- the steps of the course k steps earlier
pub earlier-steps : (k : ℕ) (memory state : List ℕ) (h : List Past) → (without k memory state h).steps ≡ drop k h
earlier-steps zero memory state h = refl
earlier-steps (suc k) memory state [] = refl
earlier-steps (suc k) memory state (t ∷ h) = earlier-steps k t.state.mem (record_of t.state) h
