-- A plan by the seven points of a step: what holds in each of its cases holds of it. The points are tests in a row, so in each case the
-- tests before it were not met, and the plan is the one that the definition names there. Assumes nothing.
use Prim.Native.Nat.{ℕ, ◌%◌}
use mathlib.Core.Bool.{true, false, cond}
use mathlib.Core.List.{List}
use mathlib.Core.Path.{◌≡◌, refl, sym, ap, subst}
use lib.Dec.{eqb}
use Rattle.word.specs.Psw.{asleep?}
use Rattle.isa.specs.Decode.{decode_of}
use Rattle.machine.specs.State.{Core, State, pc}
use Rattle.machine.specs.Memory.{word_at}
use Rattle.machine.specs.Cex.{skips?}
use Rattle.machine.specs.Effect.{effect_of}
use Rattle.machine.specs.declared.Access.{Access}
use Rattle.machine.specs.declared.Act.TheVariants as act
use Rattle.machine.specs.Step
use Rattle.machine.specs.Step.{Plan, Interrupt, planned, interrupt_of, advanced, faulting, allowed, odd?, granted}
use Rattle.machine.specs.Step.{executed, instruction_of, chosen, plan_of}
use Rattle.machine_laws.proofs.Cases.{bool_cases}

-- points 4 to 7
pub instruction-cases : (c : Core) (m : List ℕ) (R : Plan → Type 0)
    → (asleep? c.psw ≡ true → R (planned c act.Sleep))
    → (asleep? c.psw ≡ false → eqb (pc c % 2) 1 ≡ true → R (faulting c c 9))
    → (asleep? c.psw ≡ false → eqb (pc c % 2) 1 ≡ false → skips? c.cex ≡ true → R (planned (advanced c) act.Skip))
    → (asleep? c.psw ≡ false → eqb (pc c % 2) 1 ≡ false → skips? c.cex ≡ false
    → R (executed c (effect_of (advanced c) (decode_of (word_at m (pc c)))) m))
    → R (instruction_of c m)
unfolding instruction_of
instruction-cases c m R sleeps odd skip runs =
    bool_cases (asleep? c.psw)
    (λ q. rw q (sleeps q)) (λ q. bool_cases (eqb (pc c % 2) 1) (λ q₁. rw (q, q₁) (odd q q₁)) (λ q₁. bool_cases (skips? c.cex)
    (λ q₂. rw (q, q₁, q₂) (skip q q₁ q₂)) (λ q₂. rw (q, q₁, q₂) (runs q q₁ q₂))))

-- point 7: an odd word access, or any other
pub granted-cases : (c x : Core) (a : Access) (m : List ℕ) (R : Plan → Type 0)
    → (odd? a ≡ true → R (faulting c (advanced c) 9)) → (odd? a ≡ false → R (allowed c x a m)) → R (granted c x a m)
unfolding granted
granted-cases c x a m R f g = bool_cases (odd? a) (λ q. rw q (f q)) (λ q. rw q (g q))

pub granted-even : (c x : Core) (a : Access) (m : List ℕ) → odd? a ≡ false → granted c x a m ≡ allowed c x a m
unfolding granted
granted-even c x a m q = ap (λ b. cond b (faulting c (advanced c) 9) (allowed c x a m)) q

by-interrupt : (i : Interrupt) (c : Core) (p : Plan) (R : Plan → Type 0)
    → (i ≡ Step.pulls → R (planned c act.Pull))
    → ((d : ℕ) → i ≡ Step.chains d → R (planned c (act.Chain d)))
    → ((d : ℕ) → i ≡ Step.accepts d → R (planned c (act.Accept d)))
    → (i ≡ Step.nothing → R p)
    → R (chosen i c p)
by-interrupt Step.pulls c p R f g h k = f refl
by-interrupt (Step.chains d) c p R f g h k = g d refl
by-interrupt (Step.accepts d) c p R f g h k = h d refl
by-interrupt Step.nothing c p R f g h k = k refl

-- a halted machine, then points 2 and 3, then the rest
pub plan-cases : (s : State) (R : Plan → Type 0)
    → (s.halted ≡ true → R (planned s.core act.Stopped))
    → (s.halted ≡ false → interrupt_of s.core s.lines s.mem ≡ Step.pulls → R (planned s.core act.Pull))
    → ((d : ℕ) → s.halted ≡ false → interrupt_of s.core s.lines s.mem ≡ Step.chains d → R (planned s.core (act.Chain d)))
    → ((d : ℕ) → s.halted ≡ false → interrupt_of s.core s.lines s.mem ≡ Step.accepts d → R (planned s.core (act.Accept d)))
    → (s.halted ≡ false → interrupt_of s.core s.lines s.mem ≡ Step.nothing → R (instruction_of s.core s.mem))
    → R (plan_of s)
unfolding plan_of
plan-cases s R halts pulls chains accepts runs =
    let i = interrupt_of s.core s.lines s.mem in
    let p = instruction_of s.core s.mem in
    bool_cases s.halted
    (λ q. subst (λ b. R (cond b (planned s.core act.Stopped) (chosen i s.core p))) (sym q) (halts q))
    (λ q. subst (λ b. R (cond b (planned s.core act.Stopped) (chosen i s.core p))) (sym q)
    (by-interrupt i s.core p R (pulls q) (λ d. chains d q) (λ d. accepts d q) (runs q)))

-- the plan of a machine that is not halted, and that of a halted one
pub plan-live : (s : State) → s.halted ≡ false
    → plan_of s ≡ chosen (interrupt_of s.core s.lines s.mem) s.core (instruction_of s.core s.mem)
unfolding plan_of
plan-live s h =
    let p = chosen (interrupt_of s.core s.lines s.mem) s.core (instruction_of s.core s.mem) in
    ap (λ b. cond b (planned s.core act.Stopped) p) h

pub plan-halted : (s : State) → s.halted ≡ true → plan_of s ≡ planned s.core act.Stopped
unfolding plan_of
plan-halted s h =
    let p = chosen (interrupt_of s.core s.lines s.mem) s.core (instruction_of s.core s.mem) in
    ap (λ b. cond b (planned s.core act.Stopped) p) h
