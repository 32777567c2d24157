-- A row for each step of a run: state, act, open frames, their handlers and the application's SP when the outermost frame
-- opened; and the next row from it. Assumes nothing.
use Prim.Native.Nat.{ℕ, suc, ◌+◌}
use mathlib.Core.Bool.{false, cond}
use mathlib.Core.List.{List, ◌++◌}
use mathlib.Core.Path.{◌≡◌, ap, ◌∙◌}
use Rattle.machine.specs.State.{Core, State, sp}
use Rattle.machine.specs.Memory.{Write, commit}
use Rattle.machine.specs.Events.{Event}
use Rattle.machine.specs.Devices.{deliver}
use Rattle.machine.specs.declared.Act.{Act}
use Rattle.machine.specs.Step.{Outcome, planned, plan_of, perform, closed, finished}
use Rattle.machine_laws.proofs.Runs.{step-live, run_step}
use Rattle.resume.specs.Frames.{Frame, frames_after, after, due, act, frames, none?}
use Rattle.resume.specs.Example.{zeros}
use Rattle.resume.proofs.Trace.{known, closed_is}
use Rattle.stack_need.specs.Stack.{Handler, handlers_after, handlers, opened}

module _ (ev : List Event) (s : State) where
  -- Before step k the run is in the state t; its due events make it d, and it does a from the core c. The frames fs are
  -- open, the handlers hs run in them, and the application's SP was b.
  pub record Row (k : ℕ) (t d : State) (c : Core) (a : Act) (fs : List Frame) (hs : List Handler) (b : ℕ) : Type 0 where
    pub state_is : after ev s k ≡ t
    pub due-is : due ev s k ≡ d
    pub plan-is : plan_of d ≡ planned c a
    pub frames-are : frames ev s k ≡ fs
    pub handlers-are : handlers ev s k ≡ hs
    pub opened-is : opened ev s k ≡ b

  pub act-is : {k : ℕ} {t d : State} {c : Core} {a : Act} {fs : List Frame} {hs : List Handler} {b : ℕ} → Row k t d c a fs hs b
      → act ev s k ≡ a
  act-is R = ap (λ x. (plan_of x).act) R.due-is ∙ ap (λ p. p.act) R.plan-is

  -- the next row: what the step leaves, its due events, and what is done then
  module _ (ws : List Write) {k : ℕ} {t : State} {cd : Core} {l m : ℕ} {c : Core} {a : Act} {fs : List Frame} {hs : List Handler} {b : ℕ}
      (R : Row k t (known cd l m ws) c a fs hs b) (live : t.halted ≡ false) (o : Outcome)
      (leaves : perform a c l (commit ws zeros) ≡ o) (going : o.halted ≡ false) where
    pub next-state : after ev s (suc k) ≡ known o.core o.lines (m + 1) (ws ++ o.writes)
    next-state =
        run_step ev s k
        ∙ step-live ev (after ev s k) (ap (λ x. x.halted) R.state_is ∙ live)
        ∙ ap finished R.due-is
        ∙ ap (λ p. closed (perform p.act p.core l (commit ws zeros)) m (commit ws zeros)) R.plan-is
        ∙ ap (λ x. closed x m (commit ws zeros)) leaves
        ∙ closed_is o m ws going

    pub next-handlers : handlers ev s (suc k) ≡ handlers_after a (known o.core o.lines (m + 1) (ws ++ o.writes)) hs
    unfolding handlers
    next-handlers = λ i. handlers_after (act-is R i) (next-state i) (R.handlers-are i)

    next-frames : frames ev s (suc k) ≡ frames_after a (known o.core o.lines (m + 1) (ws ++ o.writes)) fs
    unfolding frames
    next-frames = λ i. frames_after (act-is R i) (next-state i) (R.frames-are i)

    next-opened : opened ev s (suc k) ≡ cond (none? fs) (sp cd) b
    unfolding opened
    next-opened = λ i. cond (none? (R.frames-are i)) (sp (R.due-is i).core) (R.opened-is i)

    pub next_row : (d' : State) (c' : Core) (a' : Act) → deliver ev (known o.core o.lines (m + 1) (ws ++ o.writes)) ≡ d'
        → plan_of d' ≡ planned c' a'
        → Row (suc k) (known o.core o.lines (m + 1) (ws ++ o.writes)) d' c' a'
        (frames_after a (known o.core o.lines (m + 1) (ws ++ o.writes)) fs)
        (handlers_after a (known o.core o.lines (m + 1) (ws ++ o.writes)) hs) (cond (none? fs) (sp cd) b)
    next_row d' c' a' then does =
        record {
          state_is = next-state;
          due-is = ap (deliver ev) next-state ∙ then;
          plan-is = does;
          frames-are = next-frames;
          handlers-are = next-handlers;
          opened-is = next-opened;
        }
