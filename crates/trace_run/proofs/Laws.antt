-- A traced run as its loop goes: what it holds, one step taken or given up, a stretch, the ways in which it ends; and steps in
-- which no event is due. Assumes nothing.
use Prim.Native.Nat.{ℕ, zero, suc, ◌+◌, ◌-◌, ◌*◌, ◌<◌, ◌≤◌}
use native.Mathlib.Numerals.{add-one}
use native.Mathlib.Omega.{arith}
use mathlib.Core.Bool.{Bool, true, false, cond, not, ◌||◌}
use mathlib.Core.List.{List, []}
use mathlib.Core.Logic.{◌≢◌}
use mathlib.Core.Path.{◌≡◌, refl, sym, ap, subst, ◌∙◌}
use lib.Dec.{eqb, ltb}
use lib.ListN.{length, length-append}
use lib.Seq.{sets, length-sets}
use borrow.Author.Tests.{not-true}
use Rattle.word.specs.Psw.{bit_of}
use Rattle.machine.specs.declared.Rest.{Rest}
use Rattle.machine.specs.State.{State, state_with}
use Rattle.machine.specs.Events.{Event, event_at, events_from, event_count, events_of}
use Rattle.machine.specs.Devices.{deliver}
use Rattle.machine.specs.Step.{finished}
use Rattle.machine.specs.Run.{ran, run_of}
use Rattle.machine.specs.Uneventful.{Uneventful}
use Rattle.machine_laws.proofs.Cases.{bool_cases, eq_of, lt_of, ge-of, is_lt, not-lt}
use Rattle.machine_laws.proofs.Runs.{step-live}
use Rattle.run_laws.proofs.Room.{neither}
use Rattle.devices.specs.Cursor.{Ordered}
use Rattle.devices.proofs.Laws.{step_at, step-le}
use Rattle.turn.specs.Due.{Awaits}
use Rattle.turn.proofs.Laws.{due_in_lem}
use Rattle.trace.specs.Trace.{Entry, traced_of, trace_bytes}
use Rattle.trace.specs.Traced.{Traced, traced, run_traced}
use Rattle.trace.specs.Before.{events_before}
use Rattle.trace.specs.Kinds.{Sparse, NoneOf, Quiet}
use Rattle.run_laws.proofs.Roomed.{records-fit, turn-start, turn-taken, turn-short, turn-full, turn-halted}
use Rattle.trace.proofs.Bytes.{trace-stored}
use Rattle.trace.proofs.Turns.{turn-stretch}
use Rattle.trace_step.proofs.Index.{index-none}
use Rattle.trace_run.specs.Reached.{Reached, Turn, sparse?}

-- ---- the two tests

pub lacks-is : (room added more : ℕ) → added ≤ room → ltb (room - added) more ≡ ltb room (added + more)
lacks-is room added more h =
    bool_cases (ltb (room - added) more)
    (λ q. let l : room - added < more = lt_of q in let m : room < added + more = omega arith in q ∙ sym (is_lt m))
    (λ q. let l : more ≤ room - added = ge-of q in let m : added + more ≤ room = omega arith in q ∙ sym (not-lt m))

pub sparse_of : (ks : ℕ) → sparse? ks ≡ true → Sparse ks
sparse_of ks h =
    let p = neither (bit_of 4 ks) _ (not-true _ h) in
    let q = neither (bit_of 7 ks) _ p.1 in
    let r = neither (bit_of 9 ks) _ q.1 in
    let s = neither (bit_of 10 ks) (bit_of 11 ks) r.1 in
    record { sleep = p.0; skip = q.0; plain = r.0; load = s.0; store = s.1 }

-- ---- no event due

none_from : (b : List ℕ) (n i k : ℕ) → ((j : ℕ) → j < i + n → (event_at b j).step ≢ k) → NoneOf (events_from b i n) k
unfolding events_from
none_from b zero i k h = tt
none_from b (suc n) i k h = (h i (omega arith), none_from b n (suc i) k (λ j l. h j (omega arith)))

module _ (b : List ℕ) (next due k : ℕ) (a : Awaits b next due k) (o : Ordered b) where
  -- up to the step of the record awaited
  pub awaits-quiet : Quiet (events_of b) k due
  awaits-quiet j l m =
      none_from b (event_count b) 0 j
      (λ i h q.
      bool_cases (ltb i next)
      (λ z. let w = a.0.1 i (lt_of z) in absurd (omega (arith, w, q)))
      (λ z.
      let g : next ≤ i = ge-of z in
      let e : due ≡ step_at b next = a.1 ∙ due_in_lem b next (omega arith) in
      let u = step-le b next i o g (omega arith) in
      absurd (omega (arith, e, u, q))))

  pub awaits-none : (s : State) → k < due → events_before s k (events_of b) ≡ []
  awaits-none s l =
      index-none s b k next o a.0 (λ h. let e : due ≡ step_at b next = a.1 ∙ due_in_lem b next h in omega (arith, e))

-- ---- what the loop holds

module _ (ks : ℕ) (ev : List Event) (s₀ : State) (k : ℕ) (lent : List ℕ) where
  abbrev at : ℕ → Traced
  at n = run_traced ks ev s₀ k n

  pub reached-start : Reached (at 0) lent s₀ 0 0 lent false
  unfolding trace_bytes
  reached-start =
      subst (λ x. Reached x lent s₀ 0 0 lent false) (turn-start (traced_of ks ev) ev s₀ k)
      (record { state = refl; steps = refl; added = refl; trace = refl; short = refl })

  module _ (s : State) (done added : ℕ) (trace : List ℕ) (h : Reached (at done) lent s done added trace false) where
    -- it is the definition's run itself
    abbrev held : Traced
    held = traced s done (at done).records false

    held-is : held ≡ at done
    held-is = λ i. traced (h.state i) (h.steps i) (at done).records (h.short i)

    as-held : Reached held lent s done added trace false
    as-held = record { state = refl; steps = refl; added = h.added; trace = h.trace; short = refl }

    -- the records fit the room, and the trace keeps its length
    pub added-fit : added ≤ k
    added-fit = let f = records-fit (traced_of ks ev) ev s₀ k done in let e = h.added in omega arith

    pub trace-size : length trace ≡ length lent
    trace-size = ap length h.trace ∙ length-sets lent 0 (trace_bytes (at done).records)

    -- a stretch of j steps
    pub reached-stretch : (v : State) (j : ℕ) → ran v j ≡ run_of ev s j → Uneventful ev s j → Sparse ks
        → Quiet ev s.count (s.count + j) → Reached (at (done + j)) lent v (done + j) added trace false
    reached-stretch v j e f g q =
        subst (λ x. Reached x lent v (done + j) added trace false) (turn-stretch ks ev s₀ k held held-is refl v j e f g q)
        (record { state = refl; steps = refl; added = h.added; trace = h.trace; short = refl })

    -- all steps done, or halted before that
    reached-full : (n : ℕ) → done ≤ n → n ≤ done → Reached (at n) lent s done added trace false
    reached-full n l m =
        subst (λ x. Reached x lent s done added trace false) (turn-full (traced_of ks ev) ev s₀ k held held-is refl n l m) as-held

    pub reached-left : (n : ℕ) → done ≤ n → (s.halted || eqb done n) ≡ true → Reached (at n) lent s done added trace false
    reached-left n l b =
        bool_cases s.halted
        (λ q. subst (λ x. Reached x lent s done added trace false) (turn-halted (traced_of ks ev) ev s₀ k held held-is refl n l q) as-held)
        (λ q.
        let e : done ≡ n = eq_of (sym (ap (λ (c : Bool). c || eqb done n) q) ∙ b) in
        reached-full n l (omega arith))

    -- one step: the records that it adds, and whether there is room for them
    module _
        (live : s.halted ≡ false) (xs : List Entry) (told : xs ≡ traced_of ks ev s) (lacks : Bool)
        (test : lacks ≡ ltb k (added + length xs)) where
      fits-is : added + length xs ≡ length held.records + length xs
      fits-is = ap (λ i. i + length xs) h.added

      -- it is taken
      pub reached-step : (u : State) → u ≡ finished (deliver ev s) → lacks ≡ false → (added' : ℕ) → added' ≡ added + length xs
          → (trace' : List ℕ) → trace' ≡ sets trace (16 * added) (trace_bytes xs)
          → Reached (at (done + 1)) lent u (done + 1) added' trace' false
      reached-step u e b added' ea trace' el =
          let fits : length held.records + length xs ≤ k = subst (λ i. i ≤ k) fits-is (ge-of (sym test ∙ b)) in
          let w = turn-taken (traced_of ks ev) ev s₀ k held held-is refl live xs told u e fits in
          rw (add-one done)
          (subst (λ x. Reached x lent u (suc done) added' trace' false) w
          (record {
            state = refl;
            steps = refl;
            added = ea ∙ fits-is ∙ sym (length-append held.records xs);
            trace = el ∙ (λ i. sets (h.trace i) (16 * h.added i) (trace_bytes xs)) ∙ trace-stored lent held.records xs;
            short = refl;
          }))

      -- it is not taken: the run ends with what it was before
      pub reached-short : (n : ℕ) → done < n → lacks ≡ true → Reached (at n) lent s done added trace true
      reached-short n l b =
          let past : k < length held.records + length xs = subst (λ i. k < i) fits-is (lt_of (sym test ∙ b)) in
          subst (λ x. Reached x lent s done added trace true) (turn-short (traced_of ks ev) ev s₀ k held held-is refl live xs told n l past)
          (record { state = refl; steps = refl; added = h.added; trace = h.trace; short = refl })

    -- one turn's step, taken or not
    module _
        (live : s.halted ≡ false) (s' : State) (added' : ℕ) (trace' : List ℕ) (short : Bool)
        (x : Turn ks ev k s added trace s' added' trace' short) where
      pub turn_on : short ≡ false → Reached (at (done + 1)) lent s' (done + 1) added' trace' false
      turn_on q =
          reached-step live (traced_of ks ev s) refl short x.test s' (x.taken q ∙ step-live ev s live) q
          added' (x.added ∙ ap (λ c. cond c added (added + length (traced_of ks ev s))) q)
          trace' (x.written ∙ ap (λ c. cond c trace (sets trace (16 * added) (trace_bytes (traced_of ks ev s)))) q)

      pub turn-off : short ≡ true → (n : ℕ) → done < n → Reached (at n) lent s done added trace true
      turn-off q n l = reached-short live (traced_of ks ev s) refl short x.test n l q

      -- and then memory and trace are as they were
      pub turn-kept : short ≡ true → (s'.mem ≡ s.mem) × (trace' ≡ trace)
      turn-kept q = (x.kept q, x.written ∙ ap (λ c. cond c trace (sets trace (16 * added) (trace_bytes (traced_of ks ev s)))) q)

-- the same where what is held is equal part by part
pub carried : {x : Traced} {lent regs regs' m m' trace trace' : List ℕ} {t : Rest} {d a : ℕ} {b b' : Bool}
    → m' ≡ m → regs' ≡ regs → trace' ≡ trace → b' ≡ b
    → Reached x lent (state_with regs t m) d a trace b → Reached x lent (state_with regs' t m') d a trace' b'
carried {t = t} em er et eb h =
    record {
      state = (λ i. state_with (er i) t (em i)) ∙ h.state;
      steps = h.steps;
      added = h.added;
      trace = et ∙ h.trace;
      short = eb ∙ h.short;
    }

-- ---- a stretch

-- one is taken only where the kinds asked for are none of a stretch's
pub asked-sparse : (quiet halted : Bool) (j : ℕ) → (not quiet || halted ≡ true → j ≡ 0) → 0 < j → quiet ≡ true
asked-sparse true halted j none l = refl
asked-sparse false halted j none l = let z : j ≡ 0 = none refl in absurd (omega arith)
