-- A step in which points 2 and 3 do nothing: from an even PC there is no return, and with no line above the priority no interrupt. Such a
-- step is its instruction's, which is run where no CEX block skips it. Assumes nothing.
use Rattle.std.proofs.Common.{◌≡◌, ℕ, ◌/◌, ◌%◌, Bool, true, false, not, ◌&&◌, eqb, List, refl, ap, ◌∙◌, arith, eq-eqb, ne_eqb}
use mathlib.Core.Bool.{and-false}
use Rattle.word.specs.Psw.{asleep?, current}
use Rattle.isa.specs.Decode.{decode_of}
use Rattle.machine.specs.declared.Act.TheVariants as act
use Rattle.machine.specs.State.{Core, State, pc}
use Rattle.machine.specs.Memory.{word_at}
use Rattle.machine.specs.Cex.{skips?, lowered}
use Rattle.machine.specs.Entry.{best, above}
use Rattle.machine.specs.Effect.{effect_of}
use Rattle.machine.specs.Step as step
use Rattle.machine.specs.Step.{Interrupt, planned, returns?, interrupt_of, advanced, faulting, executed, instruction_of, chosen, plan_of}
use Rattle.machine_laws.proofs.Plans.{plan-live}
use Rattle.entry.proofs.Lines.{line-no-lines, line-isnt}

-- ---- points 2 and 3

-- where no line waits, none is above any priority
pub none-waits : (l p : ℕ) (m : List ℕ) → l ≡ 0 → above m (best l m) p ≡ false
none-waits l p m e = line-isnt m l p 8 (line-no-lines m l p e) (omega arith)

-- an even PC is not #FFFF
no_return : (c : Core) → pc c % 2 ≡ 0 → returns? c ≡ false
no_return c even =
    let e : eqb (pc c) 0xFFFF ≡ false = ne_eqb (pc c) 0xFFFF (λ q. omega arith) in
    ap (λ (b : Bool). not (asleep? c.psw) && b) e ∙ and-false (not (asleep? c.psw))

-- ---- points 4 to 7

module _ (c : Core) (m : List ℕ) where
  pub instruction-asleep : asleep? c.psw ≡ true → instruction_of c m ≡ planned c act.Sleep
  unfolding instruction_of
  instruction-asleep h = rw h refl

  pub instruction-odd : asleep? c.psw ≡ false → pc c % 2 ≡ 1 → instruction_of c m ≡ faulting c c 9
  unfolding instruction_of
  instruction-odd h o = rw (h, eq-eqb _ _ o) refl

  pub instruction-skips :
      asleep? c.psw ≡ false → (pc c % 2 ≡ 1 → ⊥) → skips? c.cex ≡ true → instruction_of c m ≡ planned (advanced c) act.Skip
  unfolding instruction_of
  instruction-skips h o k = rw (h, ne_eqb _ _ o, k) refl

  pub instruction-runs :
      asleep? c.psw ≡ false → (pc c % 2 ≡ 1 → ⊥) → skips? c.cex ≡ false →
      instruction_of c m ≡ executed c (effect_of (advanced c) (decode_of (word_at m (pc c)))) m
  unfolding instruction_of
  instruction-runs h o k = rw (h, ne_eqb _ _ o, k) refl

-- a CEX state with no count left skips nothing and stays
pub shut_none : (x : ℕ) → x % 64 ≡ 0 → (skips? x ≡ false) × (lowered x ≡ x)
shut_none x h =
    let a : x / 8 % 8 ≡ 0 = omega arith in
    let b : x % 8 ≡ 0 = omega arith in
    (rw (a, b) refl, rw (a, b) refl)

-- ---- the step

module _ (s : State) (live : s.halted ≡ false) (even : pc s.core % 2 ≡ 0) (woken : asleep? s.core.psw ≡ false)
    (q : above s.mem (best s.lines s.mem) (current s.core.psw) ≡ false) where
  no-interrupt : interrupt_of s.core s.lines s.mem ≡ step.nothing
  unfolding interrupt_of
  no-interrupt = rw (no_return s.core even, q) refl

  plan-quiet : plan_of s ≡ instruction_of s.core s.mem
  plan-quiet =
      plan-live s live ∙ ap (λ (i : Interrupt). chosen i s.core (instruction_of s.core s.mem)) no-interrupt

  not-odd : pc s.core % 2 ≡ 1 → ⊥
  not-odd o = omega arith

  pub plan-runs :
      skips? s.core.cex ≡ false
      → plan_of s ≡ executed s.core (effect_of (advanced s.core) (decode_of (word_at s.mem (pc s.core)))) s.mem
  plan-runs k = plan-quiet ∙ instruction-runs s.core s.mem woken not-odd k

  pub plan-skips : skips? s.core.cex ≡ true → plan_of s ≡ planned (advanced s.core) act.Skip
  plan-skips k = plan-quiet ∙ instruction-skips s.core s.mem woken not-odd k
