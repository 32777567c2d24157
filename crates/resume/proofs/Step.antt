-- One step of the application beside the run with no events: an instruction, or a return. Both have the same core, and the same bytes
-- wherever the step reads; so they plan the same act, and leave the same but for bytes that were different before. Assumes nothing.
use Prim.Native.Nat.{ℕ, zero, suc, ◌+◌, ◌<◌, ◌≤◌}
use mathlib.Core.Bool.{Bool, false}
use mathlib.Core.List.{List, [], ◌∷◌}
use mathlib.Core.Path.{◌≡◌, sym, ap, subst, ◌∙◌}
use native.Mathlib.Omega.{arith}
use lib.Dec.{ltb}
use lib.ListN.{length, get_or-eq_default}
use Rattle.machine.specs.State.{State, reg, sp, wrap}
use Rattle.machine.specs.Memory.{byte_at, writes?, even}
use Rattle.machine.specs.Devices.{device?}
use Rattle.machine.specs.Entry.{frame_byte, pulled}
use Rattle.machine.specs.Step.{Plan, Interrupt, pulls, nothing, interrupt_of, instruction_of, chosen, plan_of, perform}
use Rattle.machine.specs.Step.{planned, outcome, outcome_of, finished}
use Rattle.machine.specs.declared.Act.TheVariants as acts
use Rattle.machine_laws.specs.Bounds.{Each, TidyCore}
use Rattle.machine_laws.proofs.Cases.{bool_cases, lt_of, ge-of}
use Rattle.machine_laws.proofs.Memory.{commit-at}
use Rattle.machine_laws.proofs.Plans.{plan-live}
use Rattle.resume.specs.Resume.{Found}
use Rattle.resume.specs.Frames.{frame_span, reads_of}
use Rattle.resume.proofs.Frame.{pulled-found}
use Rattle.resume.proofs.Same.{quiet, Returns?, returning, instruction-same, Same, perform-same}
use Rattle.resume.proofs.Steady.{Faultless, Steady, instruction-steady}

pub each_map : (P Q : ℕ → Type 0) → ((a : ℕ) → P a → Q a) → (l : List ℕ) → Each P l → Each Q l
each_map P Q f [] h = tt
each_map P Q f (a ∷ l) h = (f a h.0, each_map P Q f l h.1)

-- each of a frame's eight bytes
each-span : (P : ℕ → Type 0) (s : ℕ) → Each P (frame_span s) → (i : ℕ) → i < 8 → P (wrap (even s + i))
each-span P s r zero h = r.0
each-span P s r (suc zero) h = r.1.0
each-span P s r (suc (suc zero)) h = r.1.1.0
each-span P s r (suc (suc (suc zero))) h = r.1.1.1.0
each-span P s r (suc (suc (suc (suc zero)))) h = r.1.1.1.1.0
each-span P s r (suc (suc (suc (suc (suc zero))))) h = r.1.1.1.1.1.0
each-span P s r (suc (suc (suc (suc (suc (suc zero)))))) h = r.1.1.1.1.1.1.0
each-span P s r (suc (suc (suc (suc (suc (suc (suc zero))))))) h = r.1.1.1.1.1.1.1.0
each-span P s r (suc (suc (suc (suc (suc (suc (suc (suc i)))))))) h = absurd (omega arith)

-- An instruction in the run's state d and in f, that of the run with no events: the same act, and the same left but for
-- device registers and bytes that g marks.
pub record Together (d f : State) (g : ℕ → Bool) : Type 0 where
  pub act : (plan_of f).act ≡ (plan_of d).act
  pub core : (finished d).core ≡ (finished f).core
  pub live : (finished f).halted ≡ false
  pub no_lines : (finished f).lines ≡ 0
  pub bytes : (a : ℕ) → a < 65536 → device? a ≡ false → (writes? (outcome_of d).writes a ≡ false → g a ≡ false)
      → byte_at (finished d).mem a ≡ byte_at (finished f).mem a

-- A return in d, pulled or chained, is pulled in f.
pub record Pulled (d f : State) : Type 0 where
  pub act : (plan_of f).act ≡ acts.Pull
  pub left : outcome_of f ≡ outcome (pulled d.core d.mem) 0 []

-- the plan of both; it stands above the section, so that no statement below carries the section's proofs
common : State → Plan
common d = instruction_of d.core d.mem

-- d is the run's state, f that of the run with no events; g marks the bytes last written by a handler or an entry.
module _ (d f : State) (g : ℕ → Bool) (size : length d.mem ≡ 65536) (alone-size : length f.mem ≡ 65536)
    (live : d.halted ≡ false) (alone-live : f.halted ≡ false) (core : d.core ≡ f.core) (no_lines : f.lines ≡ 0)
    (bytes : (a : ℕ) → a < 65536 → device? a ≡ false → g a ≡ false → byte_at d.mem a ≡ byte_at f.mem a) where
  read_same : (a : ℕ) → (device? a ≡ false) × (g a ≡ false) → byte_at d.mem a ≡ byte_at f.mem a
  read_same a h =
      bool_cases (ltb a 65536)
      (λ q. bytes a (lt_of q) h.0 h.1) (λ q.
      let big : 65536 ≤ a = ge-of q in
      get_or-eq_default d.mem 0 (omega arith) ∙ sym (get_or-eq_default f.mem 0 (omega arith)))

  -- the run with no events: no line waits
  alone-is : (i : Interrupt) → interrupt_of d.core 0 f.mem ≡ i → plan_of f ≡ chosen i d.core (instruction_of d.core f.mem)
  alone-is i e =
      plan-live f alone-live
      ∙ ap (λ l. chosen (interrupt_of f.core l f.mem) f.core (instruction_of f.core f.mem)) no_lines
      ∙ ap (λ c. chosen (interrupt_of c 0 f.mem) c (instruction_of c f.mem)) (sym core)
      ∙ ap (λ j. chosen j d.core (instruction_of d.core f.mem)) e

  -- An instruction of the application.
  module _ (no-interrupt : interrupt_of d.core d.lines d.mem ≡ nothing) (faultless : Faultless (plan_of d).act)
      (reads : Each (λ a. (device? a ≡ false) × (g a ≡ false)) (reads_of (plan_of d).act d.core)) where
    plan-is : plan_of d ≡ common d
    unfolding common
    plan-is = plan-live d live ∙ ap (λ i. chosen i d.core (instruction_of d.core d.mem)) no-interrupt

    common-faultless : Faultless (common d).act
    common-faultless = subst (λ p. Faultless p.act) plan-is faultless

    common-reads : Each (λ a. byte_at d.mem a ≡ byte_at f.mem a) (reads_of (common d).act d.core)
    common-reads =
        each_map _ _ read_same (reads_of (common d).act d.core)
        (subst (λ p. Each (λ a. (device? a ≡ false) × (g a ≡ false)) (reads_of p.act d.core)) plan-is reads)

    alone-plan-is : plan_of f ≡ common d
    unfolding common
    alone-plan-is =
        alone-is nothing (quiet d.core d.lines d.mem f.mem no-interrupt)
        ∙ instruction-same d.core d.mem f.mem common-faultless common-reads

    common-steady : Steady (common d).act
    unfolding common
    common-steady = instruction-steady d.core d.mem common-faultless

    same : Same (outcome_of d) (outcome_of f)
    same =
        rw (plan-is, alone-plan-is, no_lines)
        (perform-same (common d).act common-steady d.core (common d).core d.lines d.mem f.mem common-reads)

    pub together : Together d f g
    together =
        record {
          act = ap (λ p. p.act) (alone-plan-is ∙ sym plan-is);
          core = same.core;
          live = same.alone-live;
          no_lines = same.no_lines;
          bytes = λ a h b w.
              commit-at (outcome_of d).writes d.mem a (omega arith)
              ∙ same.writes a (byte_at d.mem a) (byte_at f.mem a) (ge-of b) (λ q. bytes a h b (w q))
              ∙ sym (commit-at (outcome_of f).writes f.mem a (omega arith));
        }

  -- A return of the application, pulled or chained: the run with no events pulls.
  module _ (returns : Returns? (interrupt_of d.core d.lines d.mem)) (tidy : TidyCore f.core) (eight : length d.core.regs ≡ 8)
      (reads : Each (λ a. (device? a ≡ false) × (g a ≡ false)) (frame_span (sp d.core))) where
    alone-pulls : plan_of f ≡ planned d.core acts.Pull
    alone-pulls = alone-is pulls (returning d.core d.lines d.mem f.mem returns)

    frame_same : (i : ℕ) → i < 8 → frame_byte d.mem (sp d.core) i ≡ frame_byte f.mem (sp d.core) i
    frame_same =
        each-span (λ a. byte_at d.mem a ≡ byte_at f.mem a) (sp d.core) (each_map _ _ read_same (frame_span (sp d.core)) reads)

    frame_found : Found f d
    frame_found =
        record {
          registers = λ i h. ap (λ c. reg c i) core;
          frame =
              record {
                stack = ap sp core;
                bytes = λ i h. subst (λ c. frame_byte d.mem (sp c) i ≡ frame_byte f.mem (sp c) i) core (frame_same i h);
              };
        }

    pub pulled-alone : Pulled d f
    unfolding perform
    pulled-alone =
        record {
          act = ap (λ p. p.act) alone-pulls;
          left =
              ap (λ p. perform p.act p.core f.lines f.mem) alone-pulls
              ∙ (λ i. outcome (pulled (core i) f.mem) (no_lines i) [])
              ∙ ap (λ c. outcome c 0 []) (sym (pulled-found f d frame_found tidy eight));
        }
