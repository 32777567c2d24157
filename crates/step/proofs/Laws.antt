-- The whole step, and an act done. l is the lines, n the count, m the memory. Assumes nothing.
use Prim.Native.Nat.{ℕ}
use mathlib.Core.Bool.{false}
use mathlib.Core.List.{List}
use mathlib.Core.Path.{◌≡◌, sym, ap, ◌∙◌}
use Rattle.machine.specs.declared.Act.{Act}
use Rattle.machine.specs.State.{Core, State}
use Rattle.machine.specs.Events.{Event}
use Rattle.machine.specs.Devices.{deliver}
use Rattle.machine.specs.Step.{perform, closed, finished, step_of}
use Rattle.machine_laws.proofs.Runs.{step-live}

-- ---- the whole step

pub step-law : (ev : List Event) (s u v : State) → s.halted ≡ false → u ≡ deliver ev s → v ≡ finished u → v ≡ step_of ev s
step-law ev s u v h e f = f ∙ ap finished e ∙ sym (step-live ev s h)

-- ---- an act done

pub performed :
    {t : State} (a b : Act) (c : Core) (l n : ℕ) (m : List ℕ) → a ≡ b → t ≡ closed (perform b c l m) n m → t ≡ closed (perform a c l m) n m
performed a b c l n m e f = f ∙ ap (λ (y : Act). closed (perform y c l m) n m) (sym e)
