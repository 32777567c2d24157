-- A judged run as its loop goes: one step that is taken or not, and the ways in which it ends. Assumes nothing.
use Prim.Native.Nat.{ℕ, zero, suc, ◌+◌, ◌-◌, ◌<◌, ◌≤◌}
use native.Mathlib.Nat.{add-suc, add-zero}
use native.Mathlib.Numerals.{add-one}
use native.Mathlib.Omega.{arith}
use mathlib.Core.Bool.{Bool, true, false, cond, ◌&&◌, ◌||◌}
use mathlib.Core.List.{List, []}
use mathlib.Core.Path.{◌≡◌, refl, sym, ap, subst, ◌∙◌}
use lib.Dec.{eqb}
use lib.ListN.{replicate}
use Rattle.machine.specs.State.{State, state_with}
use Rattle.machine.specs.Events.{Event}
use Rattle.machine.specs.Devices.{deliver}
use Rattle.machine.specs.declared.Act.{Act}
use Rattle.machine.specs.Step.{plan_of, finished, step_of}
use Rattle.machine_laws.proofs.Cases.{bool_cases, eq_of}
use Rattle.machine.specs.declared.Rest.{Rest}
use Rattle.soundness.specs.Findings.{handler, find_after}
use Rattle.soundness.specs.Watch.{Watch, unwatched, open_in, seen_by, watch_after}
use Rattle.soundness.specs.Judge.{Judging, begun, holds?, too_deep?, over?, onward, judged_run, findings_bytes}
use Rattle.open_frames.specs.declared.Frames.{Frames}
use Rattle.open_frames.specs.Open.{handler_of, held_rows, devices_of}
use Rattle.open_frames.proofs.Laws.{none-held, held-length}
use Rattle.judge.specs.Taken.{watch_with, TakenIs}
use Rattle.judge.specs.Reached.{told_by, Reaches, JudgedIs}

-- the test for depth, as code has it
pub deep-law : (f : Frames) (w : List ℕ) (a : Act)
    → (eqb f.open.held 256 && holds? a f.open.owns (eqb f.open.held 0)) ≡ too_deep? a (watch_with f w)
deep-law f w a =
    let n = held-length f.places f.open.held in
    let own = none-held f.places f.open.held in
    sym (λ i. eqb (n i) 256 && holds? a f.open.owns (own i))

-- nothing more happens to a run that is over
over-stays : (ev : List Event) (x : Judging) → over? x ≡ true → onward ev x ≡ x
over-stays ev x h = rw h refl

module _ (ev : List Event) (s₀ : State) where
  pub judged-over : (k j : ℕ) → over? (judged_run ev s₀ k) ≡ true → judged_run ev s₀ (k + j) ≡ judged_run ev s₀ k
  unfolding judged_run
  judged-over k zero h = ap (judged_run ev s₀) (add-zero k)
  judged-over k (suc j) h =
      ap (judged_run ev s₀) (add-suc k j) ∙ ap (onward ev) (judged-over k j h) ∙ over-stays ev (judged_run ev s₀ k) h

  judged-later : (k n : ℕ) → k ≤ n → over? (judged_run ev s₀ k) ≡ true → judged_run ev s₀ n ≡ judged_run ev s₀ k
  judged-later k n l h = let e : n ≡ k + (n - k) = omega arith in ap (judged_run ev s₀) e ∙ judged-over k (n - k) h

  pub reaches-start : (c : ℕ) (w : Watch) (l : List ℕ) → Reaches s₀ c (begun s₀) s₀ 0 w l false
      → Reaches s₀ c (judged_run ev s₀ 0) s₀ 0 w l false
  unfolding judged_run
  reaches-start c w l h = h

  module _ (c : ℕ) (s : State) (done : ℕ) (w : Watch) (l : List ℕ)
      (h : Reaches s₀ c (judged_run ev s₀ done) s done w l false) where
    -- it is the definition's run itself
    abbrev y : Judging
    y = record { state = s; steps = done; watch = w; noted = (judged_run ev s₀ done).noted; deep = false }

    y-is : y ≡ judged_run ev s₀ done
    y-is = λ i. record {
      state = h.state i;
      steps = h.steps i;
      watch = h.watch i;
      noted = (judged_run ev s₀ done).noted;
      deep = h.stopped i;
    }

    abbrev next : (b t : State) → Judging
    next b t =
        record {
          state = t;
          steps = suc done;
          watch = watch_after (plan_of b).act done b t w;
          noted = λ κ. find_after κ done (seen_by (plan_of b).act b t w) ((judged_run ev s₀ done).noted κ);
          deep = false;
        }

    abbrev refused : Judging
    refused = record { state = s; steps = done; watch = w; noted = (judged_run ev s₀ done).noted; deep = true }

    onward-is : (live : s.halted ≡ false) → (d : Bool) → too_deep? (plan_of (deliver ev s)).act w ≡ d
        → onward ev y ≡ cond d refused (next (deliver ev s) (step_of ev s))
    onward-is live d e =
        (λ i. cond (live i || false) y
        (cond (too_deep? (plan_of (deliver ev s)).act w) refused (next (deliver ev s) (step_of ev s))))
        ∙ ap (λ x. cond x refused (next (deliver ev s) (step_of ev s))) e

    step_is : (live : s.halted ≡ false) → step_of ev s ≡ finished (deliver ev s)
    unfolding step_of
    step_is live = ap (λ x. cond x s (finished (deliver ev s))) live

    -- a step that is taken
    pub reaches_step : s.halted ≡ false → (b : State) → b ≡ deliver ev s → too_deep? (plan_of b).act w ≡ false
        → (t : State) (w' : Watch) (l' : List ℕ) → TakenIs b t done c w w' l l'
        → Reaches s₀ c (judged_run ev s₀ (done + 1)) t (done + 1) w' l' false
    unfolding judged_run
    reaches_step live b eb shallow t w' l' k =
        let et : t ≡ step_of ev s = k.leaves ∙ ap finished eb ∙ sym (step_is live) in
        let e : next b t ≡ judged_run ev s₀ (done + 1) =
        (λ i. next (eb i) (et i))
        ∙ sym (onward-is live false (ap (λ x. too_deep? (plan_of x).act w) (sym eb) ∙ shallow))
        ∙ ap (onward ev) y-is
        ∙ ap (judged_run ev s₀) (sym (add-one done)) in
        subst (λ x. Reaches s₀ c x t (done + 1) w' l' false) e
        (record {
          state = refl;
          steps = add-one done;
          watch = k.watched;
          told = k.told (told_by s₀ (judged_run ev s₀ done)) h.told;
          stopped = refl;
        })

    -- a step that is not taken
    pub reaches-deep : s.halted ≡ false → (b : State) → b ≡ deliver ev s → too_deep? (plan_of b).act w ≡ true
        → (n : ℕ) → done < n → Reaches s₀ c (judged_run ev s₀ n) s done w l true
    unfolding judged_run
    reaches-deep live b eb deep n m =
        let e : refused ≡ judged_run ev s₀ (suc done) =
        sym (onward-is live true (ap (λ x. too_deep? (plan_of x).act w) (sym eb) ∙ deep)) ∙ ap (onward ev) y-is in
        let over : over? (judged_run ev s₀ (suc done)) ≡ true =
        sym (ap over? e) ∙ ap (λ x. x || true) live in
        let f : refused ≡ judged_run ev s₀ n = e ∙ sym (judged-later (suc done) n (omega (arith, m)) over) in
        subst (λ x. Reaches s₀ c x s done w l true) f
        (record { state = refl; steps = refl; watch = refl; told = h.told; stopped = refl })

    -- all steps done, or halted before that
    pub reaches-left : (n : ℕ) → done ≤ n → (s.halted || eqb done n) ≡ true → Reaches s₀ c (judged_run ev s₀ n) s done w l false
    reaches-left n m e =
        bool_cases s.halted
        (λ q.
        let over : over? (judged_run ev s₀ done) ≡ true = sym (ap over? y-is) ∙ ap (λ x. x || false) q in
        subst (λ x. Reaches s₀ c x s done w l false) (sym (judged-later done n m over)) h)
        (λ q.
        let same : done ≡ n = eq_of (sym (ap (λ (x : Bool). x || eqb done n) q) ∙ e) in
        subst (λ k. Reaches s₀ c (judged_run ev s₀ k) s done w l false) same h)

pub deep_is : (f : Frames) (w : List ℕ) (a a' : Act) → a ≡ a' → (r : Bool)
    → r ≡ (eqb f.open.held 256 && holds? a f.open.owns (eqb f.open.held 0)) → too_deep? a' (watch_with f w) ≡ r
deep_is f w a a' e r h =
    sym (deep-law f w a') ∙ ap (λ x. eqb f.open.held 256 && holds? x f.open.owns (eqb f.open.held 0)) (sym e) ∙ sym h

-- the same where what is held is equal part by part
pub carried : {s₀ : State} {c : ℕ} {x : Judging} {regs regs' m m' l : List ℕ} {t : Rest} {d : ℕ} {w : Watch} {b b' : Bool}
    → m' ≡ m → regs' ≡ regs → b' ≡ b → Reaches s₀ c x (state_with regs t m) d w l b → Reaches s₀ c x (state_with regs' t m') d w l b'
carried {t = t} em er eb h =
    record {
      state = (λ i. state_with (er i) t (em i)) ∙ h.state;
      steps = h.steps;
      watch = h.watch;
      told = h.told;
      stopped = eb ∙ h.stopped;
    }

-- before the first step
pub start-law : (ev : List Event) (s : State) (c : ℕ) (o : Frames) (w f : List ℕ)
    → (o.open.owns ≡ 0) × (o.open.held ≡ 0) × (handler_of o.open.oldest ≡ handler 0 16 16) → w ≡ replicate 65536 0
    → f ≡ findings_bytes c (told_by s (begun s))
    → Reaches s c (judged_run ev s 0) s 0 (watch_with o w) f false
start-law ev s c o w f eo ew ef =
    let rows : devices_of o ≡ [] = ap (held_rows o.places) eo.1 in
    let carries : watch_with o w ≡ unwatched =
    λ i. record { owns = eo.0 i; devices = rows i; oldest = eo.2 i; writers = ew i } in
    reaches-start ev s c (watch_with o w) f
    (record { state = refl; steps = refl; watch = carries; told = ef; stopped = refl })

-- what is told at the end
pub end-law : (ev : List Event) (s₀ : State) (n c : ℕ) (s : State) (done : ℕ) (o : Frames) (w f : List ℕ) (deep : Bool)
    → Reaches s₀ c (judged_run ev s₀ n) s done (watch_with o w) f deep
    → JudgedIs s₀ c (judged_run ev s₀ n) s done o.open deep w f
end-law ev s₀ n c s done o w f deep h =
    record {
      state = h.state;
      steps = h.steps;
      none = sym (ap (λ k. eqb (o.open.owns + k) 0) (held-length o.places o.open.held)) ∙ ap (λ x. eqb (open_in x) 0) h.watch;
      oldest = ap (λ (x : Watch). x.oldest) h.watch;
      stopped = h.stopped;
      marks = ap (λ (x : Watch). x.writers) h.watch;
      told = h.told;
    }
