-- A run with its log as a loop holds it: steps with no event due, one step that is taken or given up, a stretch, and the ways in which it
-- ends. What is held is the definition's run itself, so each law is one of the run's turns. Assumes nothing.
use Prim.Native.Nat.{ℕ, suc, ◌+◌, ◌*◌, ◌<◌, ◌≤◌}
use mathlib.Core.Bool.{Bool, true, false, ◌||◌}
use mathlib.Core.List.{List}
use mathlib.Core.Path.{◌≡◌, refl, sym, ap, subst, ◌∙◌}
use native.Mathlib.Numerals.{add-one}
use native.Mathlib.Omega.{arith}
use lib.Dec.{eqb, ltb}
use lib.ListN.{length, length-append}
use lib.Seq.{sets, length-sets}
use Rattle.machine.specs.declared.Depth.{Depth}
use Rattle.machine.specs.State.{State}
use Rattle.machine.specs.Events.{Event}
use Rattle.machine.specs.Devices.{deliver}
use Rattle.machine.specs.Step.{plan_of, finished}
use Rattle.machine.specs.Run.{ran, run_of}
use Rattle.machine.specs.Log.{Shown, logged_of, log_bytes}
use Rattle.machine.specs.Logged.{Logged, logged, run_logged}
use Rattle.machine.specs.Uneventful.{Uneventful}
use Rattle.machine.specs.Depth.{depth_from}
use Rattle.machine_laws.proofs.Cases.{bool_cases, eq_of, is_eq, lt_of, ge-of}
use Rattle.run_laws.proofs.Room.{logged-one, logged-run, records-fit}
use Rattle.run_laws.proofs.LogBytes.{log-stored}
use Rattle.run_laws.proofs.Turns.{turn-start, turn-taken, turn-short, turn-stretch, turn-full, turn-halted}
use Rattle.run_laws.proofs.Depth.{depth-stretch}
use Rattle.free_run.specs.Reached.{Reached}

-- ---- what the loop holds

module _ (ev : List Event) (s₀ : State) (k : ℕ) (lent : List ℕ) where
  abbrev at : ℕ → Logged
  at n = run_logged ev s₀ k n

  pub reached-start : Reached (at 0) lent s₀ 0 0 lent false
  unfolding log_bytes
  reached-start =
      subst (λ x. Reached x lent s₀ 0 0 lent false) (turn-start ev s₀ k)
      (record { state = refl; steps = refl; added = refl; log = refl; short = refl })

  module _ (s : State) (done added : ℕ) (log : List ℕ) (h : Reached (at done) lent s done added log false) where
    -- it is the definition's run itself
    abbrev held : Logged
    held = logged s done (at done).records false

    held-is : held ≡ at done
    held-is = λ i. logged (h.state i) (h.steps i) (at done).records (h.short i)

    as-held : Reached held lent s done added log false
    as-held = record { state = refl; steps = refl; added = h.added; log = h.log; short = refl }

    -- the records fit the room, and the log keeps its length
    pub added-fit : added ≤ k
    added-fit = let f = records-fit ev s₀ k done in let e = h.added in omega arith

    pub log-size : length log ≡ length lent
    log-size = ap length h.log ∙ length-sets lent 0 (log_bytes (at done).records)

    -- a stretch of j steps
    pub reached-stretch : (v : State) (j : ℕ) → ran v j ≡ run_of ev s j → Uneventful ev s j
        → Reached (at (done + j)) lent v (done + j) added log false
    reached-stretch v j e f =
        subst (λ x. Reached x lent v (done + j) added log false) (turn-stretch ev s₀ k held held-is refl v j e f)
        (record { state = refl; steps = refl; added = h.added; log = h.log; short = refl })

    -- its state is that of the run with no log; a stretch leaves the depth of the run
    pub state_is : s ≡ (run_of ev s₀ done).state
    state_is = h.state ∙ ap (λ r. r.state) (logged-run ev s₀ k done) ∙ ap (λ i. (run_of ev s₀ i).state) (sym h.steps)

    pub depth-on : (p d : Depth) → d ≡ depth_from ev s₀ p done → (j : ℕ) → Uneventful ev s j → d ≡ depth_from ev s₀ p (done + j)
    depth-on p d e j f = e ∙ sym (depth-stretch ev s₀ p done j s state_is f)

    -- all steps done, or halted before that
    reached-full : (n : ℕ) → done ≤ n → n ≤ done → Reached (at n) lent s done added log false
    reached-full n l m =
        subst (λ x. Reached x lent s done added log false) (turn-full ev s₀ k held held-is refl n l m) as-held

    pub reached-left : (n : ℕ) → done ≤ n → (s.halted || eqb done n) ≡ true → Reached (at n) lent s done added log false
    reached-left n l b =
        bool_cases s.halted
        (λ q. subst (λ x. Reached x lent s done added log false) (turn-halted ev s₀ k held held-is refl n l q) as-held)
        (λ q.
        let e : done ≡ n = eq_of (sym (ap (λ (c : Bool). c || eqb done n) q) ∙ b) in
        reached-full n l (omega arith))

    -- one step: its events, what it shows, and whether there is room for that
    module _
        (live : s.halted ≡ false) (t : State) (delivered : t ≡ deliver ev s) (xs : List Shown)
        (told : xs ≡ logged_of (plan_of t).act t) (lacks : Bool) (test : lacks ≡ ltb k (added + length xs)) where
      fits-is : added + length xs ≡ length held.records + length xs
      fits-is = ap (λ i. i + length xs) h.added

      -- it is taken
      pub reached-step : (u : State) → u ≡ finished t → lacks ≡ false → (added' : ℕ) → added' ≡ added + length xs
          → (log' : List ℕ) → log' ≡ sets log (8 * added) (log_bytes xs)
          → Reached (at (done + 1)) lent u (done + 1) added' log' false
      reached-step u e b added' ea log' el =
          let fits : length held.records + length xs ≤ k = subst (λ i. i ≤ k) fits-is (ge-of (sym test ∙ b)) in
          let w = turn-taken ev s₀ k held held-is refl live t delivered xs told u e fits in
          rw (add-one done)
          (subst (λ x. Reached x lent u (suc done) added' log' false) w
          (record {
            state = refl;
            steps = refl;
            added = ea ∙ fits-is ∙ sym (length-append held.records xs);
            log = el ∙ (λ i. sets (h.log i) (8 * h.added i) (log_bytes xs)) ∙ log-stored lent held.records xs;
            short = refl;
          }))

      -- it is not taken: the run ends with what it was before
      pub reached-short : (n : ℕ) → done < n → lacks ≡ true → Reached (at n) lent s done added log true
      reached-short n l b =
          let past : k < length held.records + length xs = subst (λ i. k < i) fits-is (lt_of (sym test ∙ b)) in
          subst (λ x. Reached x lent s done added log true) (turn-short ev s₀ k held held-is refl live t delivered xs told n l past)
          (record { state = refl; steps = refl; added = h.added; log = h.log; short = refl })

      -- and the log is full
      pub short-full : lacks ≡ true → eqb added k ≡ true
      short-full b =
          let past : k < added + length xs = lt_of (sym test ∙ b) in
          let one : length xs ≤ 1 = subst (λ ys. length ys ≤ 1) (sym told) (logged-one (plan_of t).act t) in
          let fit = added-fit in
          is_eq {m = added} {n = k} (omega arith)
