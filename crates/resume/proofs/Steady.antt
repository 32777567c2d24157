-- A step without a fault: what it can be, and that it starts from the state's own core unless it is an instruction's. The
-- instructions stay shut. Assumes nothing.
use Prim.Native.Nat.{ℕ}
use mathlib.Core.Bool.{false, true≢false}
use mathlib.Core.List.{List}
use mathlib.Core.Path.{◌≡◌, refl, sym, subst, ◌∙◌}
use lib.Dec.{ltb}
use Rattle.word.specs.Psw.{faulted?, current}
use Rattle.isa.specs.Decode.{decode_of}
use Rattle.machine.specs.declared.Access.{Access}
use Rattle.machine.specs.declared.Access.TheVariants.{Nothing, Load, Store, Fault, Trap}
use Rattle.machine.specs.State.{Core, State, pc}
use Rattle.machine.specs.Memory.{word_at}
use Rattle.machine.specs.Entry.{priority}
use Rattle.machine.specs.Effect.{effect_of}
use Rattle.machine.specs.declared.Act.{Act}
use Rattle.machine.specs.Step.{advanced, faulting, allowed, granted, instruction_of, plan_of, perform, finished}
use Rattle.machine.specs.declared.Act.TheVariants as acts
use Rattle.machine_laws.proofs.Cases.{bool_cases}
use Rattle.machine_laws.proofs.Plans.{instruction-cases, granted-cases, plan-cases}
use Rattle.resume.specs.Frames.{Frame, Calm}

-- The acts that are no fault.
abbrev pub Faultless : Act → Type 0
Faultless acts.Stopped = Unit {0}
Faultless acts.Pull = Unit {0}
Faultless (acts.Chain d) = Unit {0}
Faultless (acts.Accept d) = Unit {0}
Faultless acts.Sleep = Unit {0}
Faultless (acts.Fault v) = ⊥
Faultless acts.Halt = ⊥
Faultless acts.Skip = Unit {0}
Faultless (acts.Trap v) = Unit {0}
Faultless acts.Plain = Unit {0}
Faultless (acts.Loads byte a d) = Unit {0}
Faultless (acts.Stores byte a v) = Unit {0}

-- a step that the premises let in is no fault
pub calm-faultless : (a : Act) (fs : List Frame) → Calm a fs → Faultless a
calm-faultless acts.Stopped fs c = tt
calm-faultless acts.Pull fs c = tt
calm-faultless (acts.Chain d) fs c = tt
calm-faultless (acts.Accept d) fs c = tt
calm-faultless acts.Sleep fs c = tt
calm-faultless (acts.Fault v) fs c = c
calm-faultless acts.Halt fs c = c
calm-faultless acts.Skip fs c = tt
calm-faultless (acts.Trap v) fs c = tt
calm-faultless acts.Plain fs c = tt
calm-faultless (acts.Loads byte a d) fs c = tt
calm-faultless (acts.Stores byte a v) fs c = tt

-- The acts of an instruction that is no fault.
abbrev pub Steady : Act → Type 0
Steady acts.Stopped = ⊥
Steady acts.Pull = ⊥
Steady (acts.Chain d) = ⊥
Steady (acts.Accept d) = ⊥
Steady acts.Sleep = Unit {0}
Steady (acts.Fault v) = ⊥
Steady acts.Halt = ⊥
Steady acts.Skip = Unit {0}
Steady (acts.Trap v) = Unit {0}
Steady acts.Plain = Unit {0}
Steady (acts.Loads byte a d) = Unit {0}
Steady (acts.Stores byte a v) = Unit {0}

pub faulting-faults : (c x : Core) (v : ℕ) → Faultless (faulting c x v).act → ⊥
faulting-faults c x v h = bool_cases (faulted? c.psw) (λ q. rw q at h) (λ q. rw q at h)

module _ (c x : Core) (m : List ℕ) where
  -- SVC without a fault is a trap
  pub trap-granted : (v : ℕ) → Faultless (granted c x (Trap v) m).act → (granted c x (Trap v) m).act ≡ acts.Trap v
  unfolding granted
  trap-granted v h =
      bool_cases (ltb (current c.psw) (priority m v))
      (λ q. rw q refl) (λ q. absurd (faulting-faults c (advanced c) 10 (rw q at h)))

  allowed-steady : (a : Access) → Faultless (allowed c x a m).act → Steady (allowed c x a m).act
  unfolding granted
  allowed-steady Nothing h = tt
  allowed-steady (Load byte a d) h = tt
  allowed-steady (Store byte a v) h = tt
  allowed-steady (Fault v) h = absurd (faulting-faults c (advanced c) v h)
  allowed-steady (Trap v) h = subst Steady (sym (trap-granted v h)) tt

  pub granted-steady : (a : Access) → Faultless (granted c x a m).act → Steady (granted c x a m).act
  granted-steady a =
      granted-cases c x a m (λ p. Faultless p.act → Steady p.act)
      (λ q h. absurd (faulting-faults c (advanced c) 9 h)) (λ q. allowed-steady a)

pub instruction-steady : (c : Core) (m : List ℕ) → Faultless (instruction_of c m).act → Steady (instruction_of c m).act
instruction-steady c m =
    let e = effect_of (advanced c) (decode_of (word_at m (pc c))) in
    instruction-cases c m (λ p. Faultless p.act → Steady p.act)
    (λ q h. tt) (λ q r h. absurd (faulting-faults c c 9 h)) (λ q r o h. tt) (λ q r o h. granted-steady c e.core m e.access h)

-- A step without a fault of a machine that is not halted does not halt it.
perform-live : (a : Act) (c : Core) (l : ℕ) (m : List ℕ) → Faultless a → (a ≡ acts.Stopped → ⊥) → (perform a c l m).halted ≡ false
unfolding perform
perform-live acts.Stopped c l m h u = absurd (u refl)
perform-live acts.Pull c l m h u = refl
perform-live (acts.Chain d) c l m h u = refl
perform-live (acts.Accept d) c l m h u = refl
perform-live acts.Sleep c l m h u = refl
perform-live (acts.Fault v) c l m h u = refl
perform-live acts.Halt c l m h u = absurd h
perform-live acts.Skip c l m h u = refl
perform-live (acts.Trap v) c l m h u = refl
perform-live acts.Plain c l m h u = refl
perform-live (acts.Loads byte a d) c l m h u = refl
perform-live (acts.Stores byte a v) c l m h u = refl

-- A step without a fault that is no instruction's starts from the state's own core; and such a machine is not stopped.
Stopped? : Act → Type 0
Stopped? acts.Stopped = Unit {0}
Stopped? acts.Pull = ⊥
Stopped? (acts.Chain d) = ⊥
Stopped? (acts.Accept d) = ⊥
Stopped? acts.Sleep = ⊥
Stopped? (acts.Fault v) = ⊥
Stopped? acts.Halt = ⊥
Stopped? acts.Skip = ⊥
Stopped? (acts.Trap v) = ⊥
Stopped? acts.Plain = ⊥
Stopped? (acts.Loads byte a d) = ⊥
Stopped? (acts.Stores byte a v) = ⊥

steady-moves : (a : Act) → Steady a → a ≡ acts.Stopped → ⊥
steady-moves a s e = subst Steady e s

pub plan-moves : (s : State) → s.halted ≡ false → Faultless (plan_of s).act → (plan_of s).act ≡ acts.Stopped → ⊥
unfolding Stopped?
plan-moves s live =
    plan-cases s (λ p. Faultless p.act → p.act ≡ acts.Stopped → ⊥)
    (λ h c e. true≢false (sym h ∙ live)) (λ h q c e. subst Stopped? (sym e) tt) (λ d h q c e. subst Stopped? (sym e) tt)
    (λ d h q c e. subst Stopped? (sym e) tt)
    (λ h q c e. steady-moves (instruction_of s.core s.mem).act (instruction-steady s.core s.mem c) e)

pub finished-live : (s : State) → s.halted ≡ false → Faultless (plan_of s).act → (finished s).halted ≡ false
finished-live s live h = perform-live (plan_of s).act (plan_of s).core s.lines s.mem h (plan-moves s live h)

pub plan-core : (s : State) → Faultless (plan_of s).act → (Steady (plan_of s).act → ⊥) → (plan_of s).core ≡ s.core
plan-core s =
    plan-cases s (λ p. Faultless p.act → (Steady p.act → ⊥) → p.core ≡ s.core)
    (λ h c u. refl) (λ h q c u. refl) (λ d h q c u. refl) (λ d h q c u. refl)
    (λ h q c u. absurd (u (instruction-steady s.core s.mem c)))
