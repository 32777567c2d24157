-- Who wrote each byte last, marked as it is written. Assumes nothing.
use Prim.Native.Nat.{ℕ, zero, suc, ◌<◌, ◌≤◌}
use native.Mathlib.Omega.{arith}
use mathlib.Core.Bool.{Bool, true, false, cond, ◌||◌}
use mathlib.Core.List.{List, [], ◌∷◌}
use mathlib.Core.Logic.{inl, inr, ⊎_elim}
use mathlib.Core.Path.{◌≡◌, refl, sym, ap, subst, ◌∙◌}
use lib.Dec.{eqb}
use lib.ListN.{length, set, length-set}
use Rattle.machine.specs.State.{Core, State}
use Rattle.machine.specs.Memory.{Write, byte_at, writes?, span}
use Rattle.machine.specs.Step.{plan_of, outcome_of}
use Rattle.machine.specs.declared.Act.{Act}
use Rattle.machine.specs.declared.Act.TheVariants as acts
use Rattle.machine_laws.specs.Bounds.{Tidy, ActFits, Among, Pushed, MayWrite}
use Rattle.machine_laws.proofs.Cases.{bool_cases}
use Rattle.machine_laws.proofs.Memory.{set_at}
use Rattle.machine_laws.proofs.Steps.{plan-fits}
use Rattle.machine_laws.proofs.Writes.{perform-writes}
use Rattle.soundness.specs.Watch.{marked}

pub marked-length : (who : ℕ) (ws : List Write) (l : List ℕ) → length (marked who ws l) ≡ length l
unfolding marked
marked-length who [] l = refl
marked-length who (x ∷ ws) l = marked-length who ws (set l x.addr who) ∙ length-set l x.addr who

-- a byte is marked if it is written, else it keeps its mark
pub marked-at : (who : ℕ) (ws : List Write) (l : List ℕ) (a : ℕ) → a < length l
    → byte_at (marked who ws l) a ≡ cond (writes? ws a) who (byte_at l a)
unfolding marked writes?
marked-at who [] l a h = refl
marked-at who (x ∷ ws) l a h =
    marked-at who ws (set l x.addr who) a (rw length-set h)
    ∙ ap (cond (writes? ws a) who) (set_at l x.addr who a h)
    ∙ either (eqb x.addr a) (writes? ws a) (byte_at l a)
  where
    either : (p q : Bool) (y : ℕ) → cond q who (cond p who y) ≡ cond (p || q) who y
    either true true y = refl
    either true false y = refl
    either false true y = refl
    either false false y = refl

-- past the end nothing is marked
pub past : (l : List ℕ) (a : ℕ) → length l ≤ a → byte_at l a ≡ 0
past [] a h = refl
past (x ∷ l) zero h = absurd (omega (arith, h))
past (x ∷ l) (suc a) h = past l a (omega (arith, h))

-- ---- steps write within memory

pushed-within : (c : Core) (b : ℕ) → Pushed c b → b < 65536
pushed-within c b (i, (h, e)) = subst (λ x. x < 65536) (sym e) (omega arith)

span-within : (byte : Bool) (a b : ℕ) → a < 65536 → Among b (span byte a) → b < 65536
span-within true a b h (inl e) = subst (λ x. x < 65536) (sym e) h
span-within true a b h (inr e) = absurd e
span-within false a b h (inl e) = subst (λ x. x < 65536) (sym e) (omega arith)
span-within false a b h (inr (inl e)) = subst (λ x. x < 65536) (sym e) (omega arith)
span-within false a b h (inr (inr e)) = absurd e

may-within : (a : Act) (c : Core) (b : ℕ) → ActFits a → MayWrite a c b → b < 65536
may-within acts.Stopped c b f w = absurd w
may-within acts.Pull c b f w = absurd w
may-within (acts.Chain d) c b f w = absurd w
may-within (acts.Accept d) c b f w = pushed-within c b w
may-within acts.Sleep c b f w = absurd w
may-within (acts.Fault v) c b f w = pushed-within c b w
may-within acts.Halt c b f w = absurd w
may-within acts.Skip c b f w = absurd w
may-within (acts.Trap v) c b f w = pushed-within c b w
may-within acts.Plain c b f w = absurd w
may-within (acts.Loads byte a d) c b f w = omega (arith, w)
may-within (acts.Stores byte a v) c b f w =
    ⊎_elim (λ (q : Among b (span byte a.0)). span-within byte a.0 b f.0 q) (λ (q : b < 16). omega (arith, q)) w

pub writes-within : (d : State) (b : ℕ) → Tidy d → 65536 ≤ b → writes? (outcome_of d).writes b ≡ false
writes-within d b t h =
    bool_cases (writes? (outcome_of d).writes b)
    (λ q.
    let f = plan-fits d t in
    let l = may-within (plan_of d).act (plan_of d).core b f.1
    (perform-writes (plan_of d).act (plan_of d).core d.lines d.mem b f.0 q) in
    absurd (omega (arith, l, h)))
    (λ q. q)
