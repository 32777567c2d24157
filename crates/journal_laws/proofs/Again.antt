-- Running on again after going back: a step depends on its due events alone, so from the state that the journal gives
-- back the same steps lead through the same states. Assumes nothing.
use Prim.Native.Nat.{ℕ, zero, suc, ◌+◌, ◌≤◌}
use native.Mathlib.Nat.{add-zero, suc-add, zero-add}
use native.Mathlib.Omega.{arith}
use mathlib.Core.Bool.{cond}
use mathlib.Core.List.{List, [], ◌∷◌}
use mathlib.Core.Path.{◌≡◌, refl, sym, ap, subst, ◌∙◌}
use lib.Dec.{eqb}
use lib.ListN.{drop}
use Rattle.machine.specs.State.{State}
use Rattle.machine.specs.Record.{state_in, record_of}
use Rattle.machine.specs.Events.{Event}
use Rattle.machine.specs.Devices.{event_on, deliver_at}
use Rattle.machine.specs.Step.{step_of, finished}
use Rattle.machine.specs.Run.{ran, run_of}
use Rattle.machine_laws.specs.Bounds.{Tidy}
use Rattle.machine_laws.proofs.Cases.{bool_cases}
use Rattle.machine_laws.proofs.Runs.{step-halted, step-live, run-zero, run-next}
use Rattle.machine_laws.proofs.Records.{record-read}
use Rattle.machine_laws.proofs.Steps.{step-tidy, step_count}
use Rattle.journal.specs.Ring.{Journal}
use Rattle.journal.specs.Back.{lent_of, lowered}
use Rattle.journal_laws.specs.Past.{Past, next, Taken, Newest, Recalls, due_at, SameDue, earlier}
use Rattle.journal_laws.specs.Session.{without}

-- ---- due events

deliver-due : (k : ℕ) (ev : List Event) (s : State) → deliver_at k ev s ≡ deliver_at k (due_at k ev) s
unfolding deliver_at due_at
deliver-due k [] s = refl
deliver-due k (e ∷ es) s =
    bool_cases (eqb e.step k)
    (λ q.
    ap (λ c. deliver_at k es (cond c (event_on e s) s)) q
    ∙ deliver-due k es (event_on e s)
    ∙ ap (λ c. deliver_at k (due_at k es) (cond c (event_on e s) s)) (sym q)
    ∙ ap (λ c. deliver_at k (cond c (e ∷ due_at k es) (due_at k es)) s) (sym q))
    (λ q.
    ap (λ c. deliver_at k es (cond c (event_on e s) s)) q
    ∙ deliver-due k es s
    ∙ ap (λ c. deliver_at k (cond c (e ∷ due_at k es) (due_at k es)) s) (sym q))

-- two lists with the same due events give the same step
pub step-due : (ev ev' : List Event) (s : State) → due_at s.count ev ≡ due_at s.count ev' → step_of ev s ≡ step_of ev' s
step-due ev ev' s e =
    bool_cases s.halted
    (λ q. step-halted ev s q ∙ sym (step-halted ev' s q)) (λ q. step-live ev s q
    ∙ ap finished (deliver-due s.count ev s ∙ ap (λ l. deliver_at s.count l s) e ∙ sym (deliver-due s.count ev' s))
    ∙ sym (step-live ev' s q))

-- ---- the states that a journal recalls

-- a state is known by its record and its memory
same-state : (s t : State) → Tidy s → s.count ≤ 4294967295 → Tidy t → t.count ≤ 4294967295 → record_of s ≡ record_of t → s.mem ≡ t.mem
    → s ≡ t
same-state s t a b c d p q = sym (record-read s a b) ∙ (λ i. state_in (p i) (q i)) ∙ record-read t c d

module _ (t : Past) (k : Taken t) where
  pub next-tidy : Tidy (next t)
  next-tidy = step-tidy t.events t.state k.events k.tidy

  pub next-count : (next t).count ≤ 4294967295
  next-count = let a = step_count t.events t.state k.live in let b = k.countable in omega arith

-- a state whose journal recalls a step is what that step left
came_from : (s : State) (j : Journal) (t : Past) → Tidy s → s.count ≤ 4294967295 → Newest (lent_of s.mem (record_of s) j) t → s ≡ next t
came_from s j t a b w = same-state s (next t) a b (next-tidy t w.taken) (next-count t w.taken) w.state w.memory

-- the course k steps earlier has the earlier state, which is in bounds, and k steps less are counted
pub earlier-found : (k : ℕ) (s : State) (h : List Past)
    → ((without k s.mem (record_of s) h).memory ≡ (earlier s h k).mem)
    × ((without k s.mem (record_of s) h).state ≡ record_of (earlier s h k))
earlier-found zero s h = (refl, refl)
earlier-found (suc k) s [] = (refl, refl)
earlier-found (suc k) s (t ∷ h) = earlier-found k t.state h

pub earlier-tidy : (k n : ℕ) (s : State) (j : Journal) (h : List Past) → Tidy s → s.count ≤ 4294967295
    → Recalls (lent_of s.mem (record_of s) j) h (k + n) → Tidy (earlier s h k) × ((earlier s h k).count ≤ 4294967295)
earlier-tidy zero n s j h t c w = (t, c)
earlier-tidy (suc k) n s j [] t c w = absurd (subst (Recalls (lent_of s.mem (record_of s) j) []) (suc-add k n) w)
earlier-tidy (suc k) n s j (u ∷ h) t c w =
    let v = subst (Recalls (lent_of s.mem (record_of s) j) (u ∷ h)) (suc-add k n) w in
    let a = v.0.taken in
    let b = a.countable in
    earlier-tidy k n u.state (lowered j) h a.tidy (omega arith) v.1

pub earlier-count : (k : ℕ) (s : State) (j : Journal) (h : List Past) → Tidy s → s.count ≤ 4294967295
    → Recalls (lent_of s.mem (record_of s) j) h k → (earlier s h k).count + k ≡ s.count
earlier-count zero s j h t c w = add-zero s.count
earlier-count (suc k) s j [] t c w = absurd w
earlier-count (suc k) s j (u ∷ h) t c w =
    let a = w.0.taken in
    let b = a.countable in
    let g = earlier-count k u.state (lowered j) h a.tidy (omega arith) w.1 in
    let e = ap (λ v. v.count) (came_from s j u t c w.0) ∙ step_count u.events u.state a.live in
    omega arith

-- "running k on, each step's due events the same, .. gives the same state and memory again"
pub again : (ev : List Event) (k : ℕ) (s : State) (j : Journal) (h : List Past) → Tidy s → s.count ≤ 4294967295
    → Recalls (lent_of s.mem (record_of s) j) h k → SameDue ev h k → run_of ev (earlier s h k) k ≡ ran s k
again ev zero s j h t c w d = run-zero ev s
again ev (suc k) s j [] t c w d = absurd w
again ev (suc k) s j (u ∷ h) t c w d =
    let a = w.0.taken in
    let b = a.countable in
    let o = earlier u.state h k in
    let g = again ev k u.state (lowered j) h a.tidy (omega arith) w.1 d.1 in
    run-next ev o k (ap (λ y. y.state.halted) g ∙ a.live)
    ∙ ap (λ y. ran (step_of ev y.state) (suc y.steps)) g
    ∙ ap (λ y. ran y (suc k)) (step-due ev u.events u.state d.0 ∙ sym (came_from s j u t c w.0))

-- d of the steps, newer ones left out: from i + d steps earlier to i steps earlier
pub again_part : (ev : List Event) (i d : ℕ) (s : State) (j : Journal) (h : List Past) → Tidy s → s.count ≤ 4294967295
    → Recalls (lent_of s.mem (record_of s) j) h (i + d) → SameDue ev (drop i h) d
    → run_of ev (earlier s h (i + d)) d ≡ ran (earlier s h i) d
again_part ev zero d s j h t c w e =
    ap (λ k. run_of ev (earlier s h k) d) (zero-add d)
    ∙ again ev d s j h t c (subst (Recalls (lent_of s.mem (record_of s) j) h) (zero-add d) w) e
again_part ev (suc i) d s j [] t c w e = absurd (subst (Recalls (lent_of s.mem (record_of s) j) []) (suc-add i d) w)
again_part ev (suc i) d s j (u ∷ h) t c w e =
    let v = subst (Recalls (lent_of s.mem (record_of s) j) (u ∷ h)) (suc-add i d) w in
    let a = v.0.taken in
    let b = a.countable in
    ap (λ k. run_of ev (earlier s (u ∷ h) k) d) (suc-add i d)
    ∙ again_part ev i d u.state (lowered j) h a.tidy (omega arith) v.1 e
