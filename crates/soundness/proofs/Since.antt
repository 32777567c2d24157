-- A frame is open ever since the step that is told of the oldest one open. Assumes nothing.
use Prim.Native.Nat.{ℕ, zero, suc, ◌<◌, ◌≤◌}
use native.Mathlib.Omega.{arith}
use mathlib.Core.Bool.{Bool, true, false, cond, true≢false, false≢true}
use mathlib.Core.List.{List, [], ◌∷◌}
use mathlib.Core.Logic.{◌⊎◌, inl, inr, ⊎_elim}
use mathlib.Core.Path.{◌≡◌, refl, sym, ap, subst}
use lib.Dec.{ltb}
use Rattle.machine.specs.State.{State}
use Rattle.machine.specs.Events.{Event}
use Rattle.machine.specs.declared.Act.{Act}
use Rattle.machine.specs.declared.Act.TheVariants as acts
use Rattle.machine_laws.proofs.Cases.{bool_cases, lt_of, ge-of}
use Rattle.resume.specs.Frames.{Frame, NoChain, none?, frames_after, after, act, frames}
use Rattle.soundness.specs.Findings.{Handler, handler, open_finding, handlers_after, handlers, oldest}
use Rattle.soundness.proofs.Layers.{Paired, paired}

-- the oldest handler after step k: the step's own, no frame having been open before it but for a chaining; or the one
-- of before
abbrev Now : (a : Act) (k : ℕ) (fs : List Frame) (hs : List Handler) → Type 0
Now a k fs hs = ((oldest (handlers_after a k fs hs)).opened ≡ k) × (NoChain a → none? fs ≡ true)

abbrev Was : (a : Act) (k : ℕ) (fs : List Frame) (hs : List Handler) → Type 0
Was a k fs hs = ((oldest (handlers_after a k fs hs)).opened ≡ (oldest hs).opened) × (none? fs ≡ false)

-- an entry that pushes
pushes : (k v : ℕ) (fs : List Frame) (hs : List Handler) → Paired fs hs
    → (((oldest (handler k v v ∷ hs)).opened ≡ k) × (none? fs ≡ true))
    ⊎ (((oldest (handler k v v ∷ hs)).opened ≡ (oldest hs).opened) × (none? fs ≡ false))
pushes k v [] [] p = inl (refl, refl)
pushes k v [] (h ∷ hs) p = absurd p
pushes k v (f ∷ fs) [] p = absurd p
pushes k v (f ∷ fs) (h ∷ hs) p = inr (refl, refl)

-- a chaining onto the only frame
chains : (k d : ℕ) (f : Frame) (h : Handler) → Now (acts.Chain d) k (f ∷ []) (h ∷ []) ⊎ Was (acts.Chain d) k (f ∷ []) (h ∷ [])
chains k d f h =
    bool_cases f.own
    (λ q. inl (ap (λ b. (cond b (handler k d d) (handler h.opened h.vector d)).opened) q, λ nc. absurd (nc d refl)))
    (λ q. inr (ap (λ b. (cond b (handler k d d) (handler h.opened h.vector d)).opened) q, refl))

oldest-step : (a : Act) (k : ℕ) (t : State) (fs : List Frame) (hs : List Handler) → Paired fs hs
    → none? (frames_after a t fs) ≡ false
    → Now a k fs hs ⊎ Was a k fs hs
oldest-step acts.Stopped k t fs hs p e = inr (refl, e)
oldest-step acts.Pull k t [] hs p e = absurd (true≢false e)
oldest-step acts.Pull k t (f ∷ []) hs p e = absurd (true≢false e)
oldest-step acts.Pull k t (f ∷ (g ∷ fs)) [] p e = absurd p
oldest-step acts.Pull k t (f ∷ (g ∷ fs)) (h ∷ []) p e = absurd p.1
oldest-step acts.Pull k t (f ∷ (g ∷ fs)) (h ∷ (i ∷ hs)) p e = inr (refl, refl)
oldest-step (acts.Chain d) k t [] hs p e = absurd (true≢false e)
oldest-step (acts.Chain d) k t (f ∷ fs) [] p e = absurd p
oldest-step (acts.Chain d) k t (f ∷ []) (h ∷ []) p e = chains k d f h
oldest-step (acts.Chain d) k t (f ∷ []) (h ∷ (i ∷ hs)) p e = absurd p.1
oldest-step (acts.Chain d) k t (f ∷ (g ∷ fs)) (h ∷ []) p e = absurd p.1
oldest-step (acts.Chain d) k t (f ∷ (g ∷ fs)) (h ∷ (i ∷ hs)) p e = inr (refl, refl)
oldest-step (acts.Accept d) k t fs hs p e = ⊎_elim (λ x. inl (x.0, λ nc. x.1)) (λ x. inr x) (pushes k d fs hs p)
oldest-step acts.Sleep k t fs hs p e = inr (refl, e)
oldest-step (acts.Fault v) k t fs hs p e = ⊎_elim (λ x. inl (x.0, λ nc. x.1)) (λ x. inr x) (pushes k v fs hs p)
oldest-step acts.Halt k t fs hs p e = inr (refl, e)
oldest-step acts.Skip k t fs hs p e = inr (refl, e)
oldest-step (acts.Trap v) k t fs hs p e = ⊎_elim (λ x. inl (x.0, λ nc. x.1)) (λ x. inr x) (pushes k v fs hs p)
oldest-step acts.Plain k t fs hs p e = inr (refl, e)
oldest-step (acts.Loads byte a d) k t fs hs p e = inr (refl, e)
oldest-step (acts.Stores byte a v) k t fs hs p e = inr (refl, e)

module _ (ev : List Event) (s : State) where
  -- since step k, to the close of n
  pub record Since (n k : ℕ) : Type 0 where
    pub within : k < n
    pub open_since : (j : ℕ) → k < j → j ≤ n → none? (frames ev s j) ≡ false
    pub none_before : NoChain (act ev s k) → none? (frames ev s k) ≡ true

  -- opened by the step before n
  since-now : (n : ℕ) → none? (frames ev s (suc n)) ≡ false → (NoChain (act ev s n) → none? (frames ev s n) ≡ true) → Since (suc n) n
  since-now n e q =
      record {
        within = omega arith;
        open_since = λ j l m. let is : j ≡ suc n = omega (arith, l, m) in subst (λ i. none? (frames ev s i) ≡ false) (sym is) e;
        none_before = q;
      }

  -- one step more
  since-later : (n k : ℕ) → none? (frames ev s (suc n)) ≡ false → Since n k → Since (suc n) k
  since-later n k e S =
      let w = S.within in
      record {
        within = omega (arith, w);
        open_since = λ j l m.
            bool_cases (ltb j (suc n))
            (λ q. let h : j < suc n = lt_of q in S.open_since j l (omega (arith, h)))
            (λ q.
            let h : suc n ≤ j = ge-of q in
            let is : j ≡ suc n = omega (arith, h, m) in
            subst (λ i. none? (frames ev s i) ≡ false) (sym is) e);
        none_before = S.none_before;
      }

  pub since : (n : ℕ) → none? (frames ev s n) ≡ false → Since n (oldest (handlers ev s n)).opened
  unfolding frames handlers
  since zero e = absurd (true≢false e)
  since (suc n) e =
      ⊎_elim
      (λ x. subst (Since (suc n)) (sym x.0) (since-now n e x.1))
      (λ x. subst (Since (suc n)) (sym x.0) (since-later n (oldest (handlers ev s n)).opened e (since n x.1)))
      (oldest-step (act ev s n) n (after ev s (suc n)) (frames ev s n) (handlers ev s n) (paired ev s n) e)

-- what is told of frames left open
pub open_step : (none : Bool) (h : Handler) → (open_finding none h).found ≡ true → (none ≡ false) × ((open_finding none h).step ≡ h.opened)
open_step true h e = absurd (false≢true e)
open_step false h e = (refl, refl)
