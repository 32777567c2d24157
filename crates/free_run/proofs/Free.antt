-- A run carried on where no event is due: by a stretch, which is uneventful, or by one step, whose events are none, so that the step taken
-- at once is the definition's. What comes after one another adds up. Assumes nothing.
use Prim.Native.Nat.{ℕ, ◌+◌, ◌-◌, ◌/◌, ◌%◌, ◌<◌, ◌≤◌}
use native.Mathlib.Omega.{arith}
use mathlib.Core.Bool.{Bool, true, false, not, ◌||◌, false≢true}
use mathlib.Core.List.{List, []}
use mathlib.Core.Path.{◌≡◌, refl, sym, ap, subst, ◌∙◌}
use lib.Dec.{eqb, ltb}
use lib.ListN.{length}
use mathlib.Mathlib.Data.Bool.Basic.{or-eq-false-eq-eq-false-and-eq-false}
use Rattle.machine.specs.declared.Depth.{Depth}
use Rattle.machine.specs.State.{State}
use Rattle.machine.specs.Events.{Event}
use Rattle.machine.specs.Devices.{deliver, deliver_at}
use Rattle.machine.specs.Step.{plan_of}
use Rattle.machine.specs.Log.{logged_of}
use Rattle.machine.specs.Depth.{depth_after, depth_from}
use Rattle.machine_laws.proofs.Cases.{bool_cases, eq_of, not-lt}
use Rattle.machine_laws.proofs.Runs.{run-zero}
use Rattle.run_laws.proofs.Depth.{depth-start, depth-next, open-le}
use Rattle.stretch_memory.specs.Served.{running}
use Rattle.stretch.specs.Stretch.{Undisturbed, Passes}
use Rattle.frame_step.specs.Took.{Took}
use Rattle.free_run.specs.Free.{Along, Goes}
use Rattle.free_run.proofs.Laws.{reached-stretch, reached-step, state_is, depth-on}

-- ---- what a run has come to

module _ (ev : List Event) (s₀ : State) (k : ℕ) (lent : List ℕ) (p : Depth) (s : State) (d : Depth) (added : ℕ) (log : List ℕ) (done : ℕ)
    (h : Along ev s₀ k lent p s d added log done) where
  -- a stretch
  along-stretch : (v : State) (j : ℕ) → Passes ev s v j → Along ev s₀ k lent p v d added log (done + j)
  along-stretch v j f =
      record {
        reached = reached-stretch ev s₀ k lent s done added log h.reached v j f.0 f.1;
        depth = depth-on ev s₀ k lent s done added log h.reached p d h.depth j f.1;
      }

  -- a step taken at once
  pub took-reaches :
      (u : State) (d' : Depth) (added' : ℕ) (log' : List ℕ) → s.halted ≡ false → deliver ev s ≡ s → Took k s d added log u d' added' log'
      → Along ev s₀ k lent p u d' added' log' (done + 1)
  took-reaches u d' added' log' live none f =
      let xs = logged_of (plan_of s).act s in
      let fits : added + length xs ≤ k = subst (λ (i : ℕ). i ≤ k) f.added f.room in
      record {
        reached = reached-step ev s₀ k lent s done added log h.reached live s (sym none) xs refl (ltb k (added + length xs)) refl u
            f.state (not-lt fits) added' f.added log' f.log;
        depth = f.depth
            ∙ (λ i. depth_after (plan_of (sym none i)).act (h.depth i))
            ∙ sym (depth-next ev s₀ p done s (state_is ev s₀ k lent s done added log h.reached));
      }

-- frames open after it: one more at most
pub took-opened :
    (k : ℕ) (s u : State) (d d' : Depth) (added added' : ℕ) (log log' : List ℕ) → Took k s d added log u d' added' log'
    → d'.opened ≤ d.opened + 1
unfolding deliver_at
took-opened k s u d d' added added' log log' f =
    let start = depth-start [] s d in
    let next : depth_from [] s d 1 ≡ depth_after (plan_of s).act d =
    depth-next [] s d 0 s (sym (ap (λ r. r.state) (run-zero [] s))) ∙ ap (depth_after (plan_of s).act) start in
    let e : d'.opened ≡ (depth_from [] s d 1).opened = ap (λ (x : Depth). x.opened) (f.depth ∙ sym next) in
    let o = open-le [] s d 1 in
    omega arith

-- ---- one step

-- where no line waits
pub took-lines :
    (l : ℕ) → l ≡ 0 → (regs m regs' m' : List ℕ) (psw cex psw' cex' n : ℕ) (k : ℕ) (d d' : Depth) (added added' : ℕ) (log log' : List ℕ)
    → Took k (running regs psw cex 0 n m) d added log (running regs' psw' cex' 0 (n + 1) m') d' added' log'
    → Took k (running regs psw cex l n m) d added log (running regs' psw' cex' l (n + 1) m') d' added' log'
took-lines l e regs m regs' m' psw cex psw' cex' n k d d' added added' log log' f =
    subst
    (λ (l : ℕ). Took k (running regs psw cex l n m) d added log (running regs' psw' cex' l (n + 1) m') d' added' log')
    (sym e) f

-- the test before a step between two stretches
pub quiet : (l x : ℕ) (b : Bool) → ((not (eqb l 0) || not (eqb (x % 64) 0)) || b) ≡ false → (l ≡ 0) × (x % 64 ≡ 0) × (b ≡ false)
quiet l x b h =
    let p = (or-eq-false-eq-eq-false-and-eq-false (not (eqb l 0) || not (eqb (x % 64) 0)) b).0 h in
    let q = (or-eq-false-eq-eq-false-and-eq-false (not (eqb l 0)) (not (eqb (x % 64) 0))).0 p.0 in
    (eq_of (is_true _ q.0), eq_of (is_true _ q.1), p.1)
  where
    is_true : (c : Bool) → not c ≡ false → c ≡ true
    is_true c e = bool_cases c (λ r. r) (λ r. absurd (false≢true (sym e ∙ ap not r)))

-- ---- carried on

-- the same from equal parts
pub goes-as :
    (n : ℕ) (s : State) (d : Depth) (added : ℕ) (log : List ℕ) {s₁ s₂ : State} {d₁ d₂ : Depth} {added₁ added₂ : ℕ} {log₁ log₂ : List ℕ}
    {j₁ j₂ : ℕ} → s₂ ≡ s₁ → d₂ ≡ d₁ → added₂ ≡ added₁ → log₂ ≡ log₁ → j₂ ≡ j₁ → Goes n s d added log s₁ d₁ added₁ log₁ j₁
    → Goes n s d added log s₂ d₂ added₂ log₂ j₂
goes-as n s d added log {s₁} {s₂} {d₁} {d₂} {added₁} {added₂} {log₁} {log₂} {j₁} {j₂} es ed ea el ej g =
    subst (λ (x : State). Goes n s d added log x d₂ added₂ log₂ j₂) (sym es)
    (subst (λ (x : Depth). Goes n s d added log s₁ x added₂ log₂ j₂) (sym ed)
    (subst (λ (x : ℕ). Goes n s d added log s₁ d₁ x log₂ j₂) (sym ea)
    (subst (λ (x : List ℕ). Goes n s d added log s₁ d₁ added₁ x j₂) (sym el)
    (subst (λ (x : ℕ). Goes n s d added log s₁ d₁ added₁ log₁ x) (sym ej) g))))

pub goes_none :
    (n : ℕ) (regs m : List ℕ) (psw cex l count : ℕ) (d : Depth) (added : ℕ) (log : List ℕ)
    → Goes n (running regs psw cex l count m) d added log (running regs psw cex l (count + (n - n)) m) d added log (n - n)
goes_none n regs m psw cex l count d added log = record { on = on }
  where
    on : (ev : List Event) (s₀ : State) (k : ℕ) (lent : List ℕ) (p : Depth) (done : ℕ) → Undisturbed ev count (count + n)
        → k ≡ length log / 8 → Along ev s₀ k lent p (running regs psw cex l count m) d added log done
        → Along ev s₀ k lent p (running regs psw cex l (count + (n - n)) m) d added log (done + (n - n))
    on ev s₀ k lent p done u e h =
        let z : n - n ≡ 0 = omega arith in
        let a : count + 0 ≡ count = omega arith in
        let b : done + 0 ≡ done = omega arith in
        rw (z, a, b) h

module _ (n : ℕ) (s : State) (d : Depth) (added : ℕ) (log : List ℕ) (regs m : List ℕ) (psw cex l left : ℕ) (d₁ : Depth) (added₁ : ℕ)
    (log₁ : List ℕ) (fits : left ≤ n)
    (f : Goes n s d added log (running regs psw cex l (s.count + (n - left)) m) d₁ added₁ log₁ (n - left))
    (regs₁ m₁ : List ℕ) (psw₁ cex₁ : ℕ) where
  -- by a stretch
  pub goes-stretch :
      (q : ℕ) → q ≤ left
      → ((ev : List Event) (k : ℕ) → Undisturbed ev k (k + left)
      → Passes ev (running regs psw cex l k m) (running regs₁ psw₁ cex₁ l (k + (left - q)) m₁) (left - q))
      → Goes n s d added log (running regs₁ psw₁ cex₁ l (s.count + (n - q)) m₁) d₁ added₁ log₁ (n - q)
  goes-stretch q h g = record {
    on = λ ev s₀ k lent p done u e a.
        let i = s.count + (n - left) in
        let here : i + (left - q) ≡ s.count + (n - q) = omega arith in
        let there : done + (n - left) + (left - q) ≡ done + (n - q) = omega arith in
        let w = g ev i (λ j x y. u j (omega arith) (omega arith)) in
        subst (λ (j : ℕ). Along ev s₀ k lent p (running regs₁ psw₁ cex₁ l j m₁) d₁ added₁ log₁ (done + (n - q))) here
        (subst (Along ev s₀ k lent p (running regs₁ psw₁ cex₁ l (i + (left - q)) m₁) d₁ added₁ log₁) there
        (along-stretch ev s₀ k lent p (running regs psw cex l i m) d₁ added₁ log₁ (done + (n - left)) (f.on ev s₀ k lent p done u e a)
        (running regs₁ psw₁ cex₁ l (i + (left - q)) m₁) (left - q) w));
  }

  -- by one step
  pub goes-took :
      0 < left → length log₁ ≡ length log → (d₂ : Depth) (added₂ : ℕ) (log₂ : List ℕ)
      → Took (length log₁ / 8) (running regs psw cex l (s.count + (n - left)) m) d₁ added₁ log₁
      (running regs₁ psw₁ cex₁ l (s.count + (n - left) + 1) m₁) d₂ added₂ log₂
      → Goes n s d added log (running regs₁ psw₁ cex₁ l (s.count + (n - (left - 1))) m₁) d₂ added₂ log₂ (n - (left - 1))
  goes-took h size d₂ added₂ log₂ g = record {
    on = λ ev s₀ k lent p done u e a.
        let i = s.count + (n - left) in
        let x = f.on ev s₀ k lent p done u e a in
        let here : i + 1 ≡ s.count + (n - (left - 1)) = omega arith in
        let there : done + (n - left) + 1 ≡ done + (n - (left - 1)) = omega arith in
        let room : length log₁ / 8 ≡ k = ap (λ (j : ℕ). j / 8) size ∙ sym e in
        let w : Took k _ d₁ added₁ log₁ (running regs₁ psw₁ cex₁ l (i + 1) m₁) d₂ added₂ log₂ =
        subst (λ (j : ℕ). Took j (running regs psw cex l i m) d₁ added₁ log₁ (running regs₁ psw₁ cex₁ l (i + 1) m₁) d₂ added₂ log₂) room
        g in
        subst (λ (j : ℕ). Along ev s₀ k lent p (running regs₁ psw₁ cex₁ l j m₁) d₂ added₂ log₂ (done + (n - (left - 1)))) here
        (subst (Along ev s₀ k lent p (running regs₁ psw₁ cex₁ l (i + 1) m₁) d₂ added₂ log₂) there
        (took-reaches ev s₀ k lent p (running regs psw cex l i m) d₁ added₁ log₁ (done + (n - left)) x
        (running regs₁ psw₁ cex₁ l (i + 1) m₁) d₂ added₂ log₂ refl (u i (omega arith) (omega arith) _) w));
  }
