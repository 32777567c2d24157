-- A step of the application does the same in two memories that agree on the bytes that it loads or fetches. The instructions
-- stay shut: nothing here goes by cases on them. Assumes nothing.
use Prim.Native.Nat.{ℕ, ◌+◌, ◌*◌, ◌%◌}
use mathlib.Core.Bool.{Bool, true, false, cond, ◌||◌}
use mathlib.Core.List.{List, []}
use mathlib.Core.Path.{◌≡◌, refl, sym, ap, subst}
use lib.Dec.{eqb, ltb}
use lib.ListN.{set}
use Rattle.word.specs.Psw.{asleep?, faulted?, current, previous}
use Rattle.isa.specs.Decode.{decode_of}
use Rattle.machine.specs.declared.Access.{Access}
use Rattle.machine.specs.declared.Access.TheVariants.{Nothing, Load, Store, Fault, Trap}
use Rattle.machine.specs.State.{Core, pc}
use Rattle.machine.specs.Memory.{byte_at, word_at, even, span, value_at}
use Rattle.machine.specs.Cex.{skips?}
use Rattle.machine.specs.Entry.{best, best_from, above, vector_psw, vector_pc, vectored, entered_psw, pushed, pushes}
use Rattle.machine.specs.Effect.{effect_of, loaded}
use Rattle.machine.specs.declared.Act.{Act}
use Rattle.machine.specs.Step.{Interrupt, Outcome, pulls, chains, accepts, nothing, interrupt_of, returns?, advanced}
use Rattle.machine.specs.Step.{faulting, allowed, granted, planned, instruction_of, perform}
use Rattle.machine.specs.declared.Act.TheVariants as acts
use Rattle.machine_laws.specs.Bounds.{Each}
use Rattle.machine_laws.proofs.Cases.{bool_cases}
use Rattle.machine_laws.proofs.Plans.{granted-cases}
use Rattle.resume.specs.Frames.{reads_of}
use Rattle.resume.proofs.Steady.{Faultless, Steady, faulting-faults, trap-granted}
use Rattle.resume.proofs.Writes.{SameWrites, same_refl, load_same, store_same}

-- ---- interrupts

Nothing? : Interrupt → Type 0
Nothing? pulls = ⊥
Nothing? (chains d) = ⊥
Nothing? (accepts d) = ⊥
Nothing? nothing = Unit {0}

no-best : (m : List ℕ) → best 0 m ≡ 8
unfolding best_from
no-best m = refl

-- where nothing interrupts with some lines waiting, nothing does with none
pub quiet : (c : Core) (l : ℕ) (m m' : List ℕ) → interrupt_of c l m ≡ nothing → interrupt_of c 0 m' ≡ nothing
unfolding interrupt_of Nothing?
quiet c l m m' e =
    bool_cases (returns? c)
    (λ q. bool_cases (above m (best l m) (previous c.psw)) (λ r. absurd (subst Nothing? (sym (rw (q, r) at e)) tt))
    (λ r. absurd (subst Nothing? (sym (rw (q, r) at e)) tt))) (λ q. rw (q, no-best m') refl)

-- where a return is pulled or chained with some lines waiting, it is pulled with none
abbrev pub Returns? : Interrupt → Type 0
Returns? pulls = Unit {0}
Returns? (chains d) = Unit {0}
Returns? (accepts d) = ⊥
Returns? nothing = ⊥

pub returning : (c : Core) (l : ℕ) (m m' : List ℕ) → Returns? (interrupt_of c l m) → interrupt_of c 0 m' ≡ pulls
unfolding interrupt_of
returning c l m m' h =
    bool_cases (returns? c)
    (λ q. rw (q, no-best m') refl) (λ q. bool_cases (above m (best l m) (current c.psw)) (λ r. absurd (rw (q, r) at h))
    (λ r. absurd (rw (q, r) at h)))

-- ---- instructions

module _ (c x : Core) (m : List ℕ) where
  granted-same : (m' : List ℕ) (a : Access) → Faultless (granted c x a m).act
      → Each (λ b. byte_at m b ≡ byte_at m' b) (reads_of (granted c x a m).act c)
      → granted c x a m' ≡ granted c x a m
  unfolding granted
  granted-same m' Nothing h r = refl
  granted-same m' (Load byte a d) h r = refl
  granted-same m' (Store byte a v) h r = refl
  granted-same m' (Fault v) h r = refl
  granted-same m' (Trap v) h r =
      let r₁ = subst (λ b. Each (λ b. byte_at m b ≡ byte_at m' b) (reads_of b c)) (trap-granted c x m v h) r in
      let w : vector_psw m' v ≡ vector_psw m v = λ i. sym r₁.0 i + 256 * sym r₁.1.0 i in
      ap (λ p. cond (ltb (current c.psw) (current p)) (planned x (acts.Trap v)) (faulting c (advanced c) 10)) w

  -- an instruction without a fault fetches
  allowed-fetch : (P : ℕ → Type 0) (a : Access) → Faultless (allowed c x a m).act → Each P (reads_of (allowed c x a m).act c)
      → P (even (pc c)) × P (even (pc c) + 1)
  unfolding granted
  allowed-fetch P Nothing h r = (r.0, r.1.0)
  allowed-fetch P (Load byte a d) h r = (r.0, r.1.0)
  allowed-fetch P (Store byte a v) h r = (r.0, r.1.0)
  allowed-fetch P (Fault v) h r = absurd (faulting-faults c (advanced c) v h)
  allowed-fetch P (Trap v) h r =
      let r₁ = subst (λ b. Each P (reads_of b c)) (trap-granted c x m v h) r in
      (r₁.1.1.1.1.0, r₁.1.1.1.1.1.0)

  granted-fetch : (P : ℕ → Type 0) (a : Access) → Faultless (granted c x a m).act → Each P (reads_of (granted c x a m).act c)
      → P (even (pc c)) × P (even (pc c) + 1)
  granted-fetch P a =
      granted-cases c x a m (λ p. Faultless p.act → Each P (reads_of p.act c) → P (even (pc c)) × P (even (pc c) + 1))
      (λ q h. absurd (faulting-faults c (advanced c) 9 h)) (λ q. allowed-fetch P a)

pub instruction-same : (c : Core) (m m' : List ℕ) → Faultless (instruction_of c m).act
    → Each (λ a. byte_at m a ≡ byte_at m' a) (reads_of (instruction_of c m).act c) → instruction_of c m' ≡ instruction_of c m
unfolding instruction_of
instruction-same c m m' h r =
    bool_cases (asleep? c.psw)
    (λ q. rw q refl) (λ q. bool_cases (eqb (pc c % 2) 1) (λ q₁. rw (q, q₁) refl) (λ q₁. bool_cases (skips? c.cex)
    (λ q₂. rw (q, q₁, q₂) refl) (λ q₂.
    let e = effect_of (advanced c) (decode_of (word_at m (pc c))) in
    let h₁ : Faultless (granted c e.core e.access m).act = rw (q, q₁, q₂) at h in
    let r₁ : Each (λ a. byte_at m a ≡ byte_at m' a) (reads_of (granted c e.core e.access m).act c) = rw (q, q₁, q₂) at r in
    let f = granted-fetch c e.core m (λ a. byte_at m a ≡ byte_at m' a) e.access h₁ r₁ in
    let w : word_at m' (pc c) ≡ word_at m (pc c) = λ i. sym f.0 i + 256 * sym f.1 i in
    rw (q, q₁, q₂, w) (granted-same c e.core m m' e.access h₁ r₁))))

-- ---- what a step leaves

value_same : (byte : Bool) (m m' : List ℕ) (a : ℕ) → Each (λ b. byte_at m b ≡ byte_at m' b) (span byte a)
    → value_at byte m a ≡ value_at byte m' a
value_same true m m' a r = r.0
value_same false m m' a r = λ i. r.0 i + 256 * r.1.0 i

pub record Same (o o' : Outcome) : Type 0 where
  pub core : o.core ≡ o'.core
  pub alone-live : o'.halted ≡ false
  pub no_lines : o'.lines ≡ 0
  pub writes : SameWrites o.writes o'.writes

-- an entry by a vector whose bytes are the same
vectored-same : (c : Core) (m m' : List ℕ) (v q : ℕ) (b : Bool) (s : ℕ) → vector_psw m v ≡ vector_psw m' v → vector_pc m v ≡ vector_pc m' v
    → vectored c m v q b s ≡ vectored c m' v q b s
unfolding vectored
vectored-same c m m' v q b s e f =
    λ i. record { regs = set (set (set c.regs 5 0xFFFF) 6 s) 7 (f i); psw = entered_psw (e i) q b; cex = 0 }

pub perform-same : (a : Act) → Steady a → (c₀ c : Core) (l : ℕ) (m m' : List ℕ) → Each (λ b. byte_at m b ≡ byte_at m' b) (reads_of a c₀)
    → Same (perform a c l m) (perform a c 0 m')
unfolding perform
perform-same acts.Stopped s c₀ c l m m' r = absurd s
perform-same acts.Pull s c₀ c l m m' r = absurd s
perform-same (acts.Chain d) s c₀ c l m m' r = absurd s
perform-same (acts.Accept d) s c₀ c l m m' r = absurd s
perform-same acts.Sleep s c₀ c l m m' r = record { core = refl; alone-live = refl; no_lines = refl; writes = same_refl [] }
perform-same (acts.Fault v) s c₀ c l m m' r = absurd s
perform-same acts.Halt s c₀ c l m m' r = absurd s
perform-same acts.Skip s c₀ c l m m' r = record { core = refl; alone-live = refl; no_lines = refl; writes = same_refl [] }
perform-same (acts.Trap v) s c₀ c l m m' r =
    let e : vector_psw m v ≡ vector_psw m' v = λ i. r.0 i + 256 * r.1.0 i in
    let f : vector_pc m v ≡ vector_pc m' v = λ i. r.1.1.0 i + 256 * r.1.1.1.0 i in
    record {
      core = vectored-same c m m' v (current c.psw) (false || faulted? c.psw) (pushed c) e f;
      alone-live = refl;
      no_lines = refl;
      writes = same_refl (pushes c);
    }
perform-same acts.Plain s c₀ c l m m' r = record { core = refl; alone-live = refl; no_lines = refl; writes = same_refl [] }
perform-same (acts.Loads byte a d) s c₀ c l m m' r =
    record {
      core = ap (loaded c byte d) (value_same byte m m' a.0 r.1.1);
      alone-live = refl;
      no_lines = refl;
      writes = load_same byte m m' a.0;
    }
perform-same (acts.Stores byte a v) s c₀ c l m m' r =
    record { core = refl; alone-live = refl; no_lines = refl; writes = store_same byte m m' a.0 v }
