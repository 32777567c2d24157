-- Resumption: a run that keeps the premises is, to the application, the run with no events. The invariant follows the
-- outermost device frame alone: a pull from the state that it holds gives the core of the run with no events. The
-- application's frames need none: what they hold is never looked at. Assumes nothing.
use Prim.Native.Nat.{ℕ, zero, suc, ◌+◌, ◌*◌, ◌-◌, ◌/◌, ◌%◌, ◌<◌, ◌≤◌}
use mathlib.Core.Bool.{true, false, cond, ◌&&◌, ◌||◌, true≢false, false≢true}
use mathlib.Core.List.{List, [], ◌∷◌}
use mathlib.Core.Logic.{◌≢◌}
use mathlib.Core.Path.{◌≡◌, refl, sym, ap, subst, ◌∙◌}
use native.Mathlib.Omega.{arith}
use lib.Dec.{eqb}
use Rattle.word.specs.Psw.{asleep?, faulted?, current, previous}
use Rattle.machine.specs.State.{Core, State, sp, wrap}
use Rattle.machine.specs.Memory.{byte_at, word_at, writes?, commit}
use Rattle.machine.specs.Record.{state_in}
use Rattle.machine.specs.Events.{Event, events_of}
use Rattle.machine.specs.Devices.{device?, deliver, deliver_at}
use Rattle.machine.specs.Entry.{pulled}
use Rattle.machine.specs.declared.Act.{Act}
use Rattle.machine.specs.Step.{Interrupt, pulls, chains, accepts, nothing, interrupt_of, instruction_of, chosen, planned, plan_of}
use Rattle.machine.specs.Step.{perform, outcome_of, finished}
use Rattle.machine.specs.declared.Act.TheVariants as acts
use Rattle.machine.specs.Run.{run_of}
use Rattle.machine_laws.specs.Bounds.{Each, Tidy, EventFits}
use Rattle.machine_laws.specs.Passed.{Passed}
use Rattle.machine_laws.proofs.Cases.{bool_cases, list_cases, eq_of, neq-of, ge-of, and_left, and_right}
use Rattle.machine_laws.proofs.Memory.{unwritten, commit-none}
use Rattle.machine_laws.proofs.Plans.{plan-live}
use Rattle.machine_laws.proofs.Runs.{step-live, run-zero, run_step}
use Rattle.machine_laws.proofs.Writes.{fits-devices, deliver-bytes}
use Rattle.machine_laws.proofs.Steps.{deliver-tidy, deliver-core, deliver-halted, run-tidy}
use Rattle.machine_laws.proofs.Records.{passed, start-tidy, events-fit}
use Rattle.resume.specs.Frames.{Frame, frame, own?, none?, older, chained, frames_after, accepts_none?, Calm, NoChain, frame_span}
use Rattle.resume.specs.Frames.{reads_of, after, due, act, frames, application?, application_steps, foreign?}
use Rattle.resume.specs.Resume.{Premises, Agree, ReadAfterPull, Resumes}
use Rattle.resume.specs.Wider.{WiderPremises}
use Rattle.resume.proofs.Frame.{Saved, saves, restores, found-refl, pulled-found, chained-found}
use Rattle.resume.proofs.Same.{Returns?}
use Rattle.resume.proofs.Steady.{Faultless, Steady, calm-faultless, instruction-steady, finished-live, plan-core}
use Rattle.resume.proofs.Outer.{Holds, Outer, outer-in, outer-out, outer-over, outer-under, steady-accepts-none, steady-no-chain}
use Rattle.resume.proofs.Outer.{older-own, frames-own, newest-device, chained-device, leaves_none}
use Rattle.resume.proofs.Step.{Together, together, Pulled, pulled-alone}

-- the run with no events, after as many steps as the application has done in the first k
abbrev free : List Event → State → ℕ → State
free ev s k = (run_of [] s (application_steps ev s k)).state

record Sim (ev : List Event) (s : State) (k : ℕ) : Type 0 where
  live : (after ev s k).halted ≡ false
  free-live : (free ev s k).halted ≡ false
  free-lines : (free ev s k).lines ≡ 0
  awake : asleep? (free ev s k).core.psw ≡ false
  here : own? (frames ev s k) ≡ true → (after ev s k).core ≡ (free ev s k).core
  outer : own? (frames ev s k) ≡ false → Outer (free ev s k).core (frames ev s k)
  bytes : (a : ℕ) → a < 65536 → device? a ≡ false → foreign? ev s k a ≡ false
      → byte_at (after ev s k).mem a ≡ byte_at (free ev s k).mem a

interrupt-cases : {R : Type 0} (i : Interrupt) → (i ≡ pulls → R) → ((d : ℕ) → i ≡ chains d → R) → ((d : ℕ) → i ≡ accepts d → R)
    → (i ≡ nothing → R)
    → R
interrupt-cases pulls f g h j = f refl
interrupt-cases (chains d) f g h j = g d refl
interrupt-cases (accepts d) f g h j = h d refl
interrupt-cases nothing f g h j = j refl

-- a pulled PSW is awake
bits-awake : (x y z : ℕ) → x < 8 → (x + y * 16 + z * 8192) / 8 % 2 ≡ 0
bits-awake x y z h = omega arith

pulled-awake : (c : Core) (m : List ℕ) → asleep? (pulled c m).psw ≡ false
unfolding pulled
pulled-awake c m =
    let p = word_at m (wrap (sp c + 2)) in
    ap (λ b. eqb b 1) (bits-awake (p % 8) (p / 16 % 32) (previous p) (omega arith))

-- a step of the run with no events; no event changes its state
deliver-none : (s : State) → deliver [] s ≡ s
unfolding deliver_at
deliver-none s = refl

free_step : (s : State) (k : ℕ) → (run_of [] s k).state.halted ≡ false → (run_of [] s (suc k)).state ≡ finished (run_of [] s k).state
unfolding deliver_at
free_step s k h = run_step [] s k ∙ step-live [] (run_of [] s k).state h

module _ (memory r events : List ℕ) (n : ℕ) (P : WiderPremises memory r events n) where
  abbrev ev : List Event
  ev = events_of events

  abbrev s : State
  s = state_in r memory

  rules : Passed memory r events n
  rules = passed memory r events n P.accepted.accepted

  fit : Each EventFits ev
  fit = events-fit memory r events n rules P.accepted.event_bytes

  tidy : Tidy s
  tidy = start-tidy memory r events n rules P.accepted.memory_bytes P.accepted.record_bytes

  after-tidy : (k : ℕ) → Tidy (after ev s k)
  after-tidy k = run-tidy ev s k fit tidy

  due-tidy : (k : ℕ) → Tidy (due ev s k)
  due-tidy k = deliver-tidy (after ev s k).count ev (after ev s k) fit (after-tidy k)

  free-tidy : (k : ℕ) → Tidy (free ev s k)
  free-tidy k = run-tidy [] s (application_steps ev s k) tt tidy

  start_is : after ev s 0 ≡ s
  start_is = ap (λ r. r.state) (run-zero ev s)

  free-start-is : free ev s 0 ≡ s
  unfolding application_steps
  free-start-is = ap (λ r. r.state) (run-zero [] s)

  start : Sim ev s 0
  unfolding frames
  start =
      record {
        live = ap (λ t. t.halted) start_is ∙ P.not_halted;
        free-live = ap (λ t. t.halted) free-start-is ∙ P.not_halted;
        free-lines = ap (λ t. t.lines) free-start-is ∙ P.no_line;
        awake = ap (λ t. asleep? t.core.psw) free-start-is ∙ P.awake;
        here = λ o. ap (λ t. t.core) (start_is ∙ sym free-start-is);
        outer = λ o. absurd (true≢false o);
        bytes = λ a b h w. ap (λ t. byte_at t.mem a) (start_is ∙ sym free-start-is);
      }

  module _ (k : ℕ) (below : k < n) (S : Sim ev s k) where
    due-core : (due ev s k).core ≡ (after ev s k).core
    due-core = deliver-core (after ev s k).count ev (after ev s k)

    due-live : (due ev s k).halted ≡ false
    due-live = deliver-halted (after ev s k).count ev (after ev s k) ∙ S.live

    due-bytes : (a : ℕ) → a < 65536 → device? a ≡ false → foreign? ev s k a ≡ false
        → byte_at (due ev s k).mem a ≡ byte_at (free ev s k).mem a
    due-bytes a b h w =
        let size = (after-tidy k).size in
        deliver-bytes (after ev s k).count ev (after ev s k) a (fits-devices ev fit) (ge-of h) (rw size b) ∙ S.bytes a b h w

    faultless : Faultless (act ev s k)
    faultless = calm-faultless (act ev s k) (frames ev s k) (P.calm k below)

    next-is : after ev s (suc k) ≡ finished (due ev s k)
    next-is = run_step ev s k ∙ step-live ev (after ev s k) S.live

    next-live : (after ev s (suc k)).halted ≡ false
    next-live = ap (λ t. t.halted) next-is ∙ finished-live (due ev s k) due-live faultless

    frames-next : (a : Act) → act ev s k ≡ a → frames ev s (suc k) ≡ frames_after a (after ev s (suc k)) (frames ev s k)
    unfolding frames
    frames-next a e = ap (λ x. frames_after x (after ev s (suc k)) (frames ev s k)) e

    inter : Interrupt
    inter = interrupt_of (due ev s k).core (due ev s k).lines (due ev s k).mem

    plan-is : (i : Interrupt) → inter ≡ i
        → plan_of (due ev s k) ≡ chosen i (due ev s k).core (instruction_of (due ev s k).core (due ev s k).mem)
    unfolding inter
    plan-is i e =
        plan-live (due ev s k) due-live
        ∙ ap (λ x. chosen x (due ev s k).core (instruction_of (due ev s k).core (due ev s k).mem)) e

    outcome-is : (a : Act) → plan_of (due ev s k) ≡ planned (due ev s k).core a
        → outcome_of (due ev s k) ≡ perform a (due ev s k).core (due ev s k).lines (due ev s k).mem
    outcome-is a e = ap (λ p. perform p.act p.core (due ev s k).lines (due ev s k).mem) e

    -- A step of the application: what is left to show of each.
    module _ (mine : application? ev s k ≡ true) where
      free-next : free ev s (suc k) ≡ finished (free ev s k)
      unfolding application_steps
      free-next =
          ap (λ b. (run_of [] s (cond b (suc (application_steps ev s k)) (application_steps ev s k))).state) mine
          ∙ free_step s (application_steps ev s k) S.free-live

      own-before : (a : ℕ) → foreign? ev s (suc k) a ≡ false → writes? (outcome_of (due ev s k)).writes a ≡ false
          → foreign? ev s k a ≡ false
      unfolding foreign?
      own-before a e q = rw q at e

      application-step : (finished (free ev s k)).halted ≡ false → (finished (free ev s k)).lines ≡ 0
          → asleep? (finished (free ev s k)).core.psw ≡ false
          → (own? (frames ev s (suc k)) ≡ true → (finished (due ev s k)).core ≡ (finished (free ev s k)).core)
          → (own? (frames ev s (suc k)) ≡ false → Outer (finished (free ev s k)).core (frames ev s (suc k)))
          → ((a : ℕ) → a < 65536 → device? a ≡ false → (writes? (outcome_of (due ev s k)).writes a ≡ false → foreign? ev s k a ≡ false)
          → byte_at (finished (due ev s k)).mem a ≡ byte_at (finished (free ev s k)).mem a)
          → Sim ev s (suc k)
      application-step live lines awake here outer bytes =
          record {
            live = next-live;
            free-live = ap (λ t. t.halted) free-next ∙ live;
            free-lines = ap (λ t. t.lines) free-next ∙ lines;
            awake = ap (λ t. asleep? t.core.psw) free-next ∙ awake;
            here = λ o. ap (λ t. t.core) next-is ∙ here o ∙ sym (ap (λ t. t.core) free-next);
            outer = λ o. subst (λ t. Outer t.core (frames ev s (suc k))) (sym free-next) (outer o);
            bytes = λ a b h w.
                ap (λ t. byte_at t.mem a) next-is
                ∙ bytes a b h (own-before a w)
                ∙ sym (ap (λ t. byte_at t.mem a) free-next);
          }

    -- Any other step.
    module _ (other : application? ev s k ≡ false)
        (here' : own? (frames ev s (suc k)) ≡ true → (finished (due ev s k)).core ≡ (free ev s k).core)
        (outer' : own? (frames ev s (suc k)) ≡ false → Outer (free ev s k).core (frames ev s (suc k))) where
      free-same : free ev s (suc k) ≡ free ev s k
      unfolding application_steps
      free-same = ap (λ b. (run_of [] s (cond b (suc (application_steps ev s k)) (application_steps ev s k))).state) other

      unwritten-own : (a : ℕ) → foreign? ev s (suc k) a ≡ false
          → (writes? (outcome_of (due ev s k)).writes a ≡ false) × (foreign? ev s k a ≡ false)
      unfolding foreign?
      unwritten-own a e =
          bool_cases (writes? (outcome_of (due ev s k)).writes a)
          (λ q. absurd (true≢false (rw (q, other) at e))) (λ q. (q, rw q at e))

      other_step : Sim ev s (suc k)
      other_step =
          record {
            live = next-live;
            free-live = ap (λ t. t.halted) free-same ∙ S.free-live;
            free-lines = ap (λ t. t.lines) free-same ∙ S.free-lines;
            awake = ap (λ t. asleep? t.core.psw) free-same ∙ S.awake;
            here = λ o. ap (λ t. t.core) next-is ∙ here' o ∙ sym (ap (λ t. t.core) free-same);
            outer = λ o. subst (λ t. Outer t.core (frames ev s (suc k))) (sym free-same) (outer' o);
            bytes = λ a b h w.
                ap (λ t. byte_at t.mem a) next-is
                ∙ unwritten (outcome_of (due ev s k)).writes (due ev s k).mem a (omega (arith, (due-tidy k).size)) (unwritten-own a w).0
                ∙ due-bytes a b h (unwritten-own a w).1
                ∙ sym (ap (λ t. byte_at t.mem a) free-same);
          }

    -- With no device frame open.
    module _ (own : own? (frames ev s k) ≡ true) where
      core_is : (due ev s k).core ≡ (free ev s k).core
      core_is = due-core ∙ S.here own

      mine-if : accepts_none? (act ev s k) ≡ true → application? ev s k ≡ true
      mine-if h = rw (own, h) refl

      -- An instruction, SVC among them.
      module _ (e : inter ≡ nothing) where
        steady : Steady (act ev s k)
        unfolding inter
        steady =
            subst (λ p. Steady p.act) (sym (plan-is nothing e))
            (instruction-steady (due ev s k).core (due ev s k).mem (subst (λ p. Faultless p.act) (plan-is nothing e) faultless))

        accepts-none : accepts_none? (act ev s k) ≡ true
        accepts-none = steady-accepts-none (act ev s k) steady

        instruction-mine : application? ev s k ≡ true
        instruction-mine = mine-if accepts-none

        both : Together (due ev s k) (free ev s k) (foreign? ev s k)
        unfolding inter
        both =
            together (due ev s k) (free ev s k) (foreign? ev s k) (due-tidy k).size (free-tidy k).size due-live S.free-live
            core_is S.free-lines due-bytes e faultless (P.reads_own k below instruction-mine)

        still-own : own? (frames ev s (suc k)) ≡ true
        still-own =
            ap own? (frames-next (act ev s k) refl)
            ∙ frames-own (act ev s k) (after ev s (suc k)) (frames ev s k) accepts-none
            (steady-no-chain (act ev s k) steady) (P.calm k below) own

        instruction-step : Sim ev s (suc k)
        instruction-step =
            application-step instruction-mine both.live both.no_lines
            (subst (λ c. asleep? c.psw ≡ false) (ap (λ t. t.core) next-is ∙ both.core) (P.never_sleeps k below instruction-mine))
            (λ o. both.core) (λ o. absurd (true≢false (sym still-own ∙ o))) both.bytes

      -- A return, pulled or chained.
      module _ (a : Act) (p-is : plan_of (due ev s k) ≡ planned (due ev s k).core a) (h : accepts_none? a ≡ true)
          (returns : Returns? (interrupt_of (due ev s k).core (due ev s k).lines (due ev s k).mem))
          (read : reads_of a (due ev s k).core ≡ frame_span (sp (due ev s k).core))
          (none : (perform a (due ev s k).core (due ev s k).lines (due ev s k).mem).writes ≡ []) where
        act-is : act ev s k ≡ a
        act-is = ap (λ p. p.act) p-is

        return-mine : application? ev s k ≡ true
        return-mine = mine-if (ap accepts_none? act-is ∙ h)

        return-reads : Each (λ b. (device? b ≡ false) × (foreign? ev s k b ≡ false)) (frame_span (sp (due ev s k).core))
        return-reads =
            subst (Each (λ b. (device? b ≡ false) × (foreign? ev s k b ≡ false))) (ap (λ x. reads_of x (due ev s k).core) act-is ∙ read)
            (P.reads_own k below return-mine)

        free-pulled : Pulled (due ev s k) (free ev s k)
        free-pulled =
            pulled-alone (due ev s k) (free ev s k) (foreign? ev s k) (due-tidy k).size (free-tidy k).size due-live S.free-live
            core_is S.free-lines due-bytes returns (free-tidy k).core (due-tidy k).core.eight return-reads

        nothing_written : (outcome_of (due ev s k)).writes ≡ []
        nothing_written = ap (λ o. o.writes) (outcome-is a p-is) ∙ none

        return-step : (own? (frames ev s (suc k)) ≡ true → (finished (due ev s k)).core ≡ pulled (due ev s k).core (due ev s k).mem)
            → (own? (frames ev s (suc k)) ≡ false → Outer (pulled (due ev s k).core (due ev s k).mem) (frames ev s (suc k)))
            → Sim ev s (suc k)
        unfolding writes?
        return-step here outer =
            let o_is = free-pulled.left in
            let c-is = ap (λ o. o.core) o_is in
            application-step return-mine (ap (λ o. o.halted) o_is) (ap (λ o. o.lines) o_is)
            (ap (λ c. asleep? c.psw) c-is ∙ pulled-awake (due ev s k).core (due ev s k).mem) (λ o. here o ∙ sym c-is)
            (λ o. subst (λ c. Outer c (frames ev s (suc k))) (sym c-is) (outer o)) (λ b l d w.
            ap (λ ws. byte_at (commit ws (due ev s k).mem) b) nothing_written
            ∙ ap (λ m. byte_at m b) (commit-none (due ev s k).mem)
            ∙ due-bytes b l d (w (ap (λ ws. writes? ws b) nothing_written))
            ∙ sym (ap (λ o. byte_at (commit o.writes (free ev s k).mem) b) o_is ∙ ap (λ m. byte_at m b) (commit-none (free ev s k).mem)))

      returns_as : (i : Interrupt) → inter ≡ i → Returns? i
          → Returns? (interrupt_of (due ev s k).core (due ev s k).lines (due ev s k).mem)
      unfolding inter
      returns_as i e h = subst Returns? (sym e) h

      pull-step : inter ≡ pulls → Sim ev s (suc k)
      unfolding perform
      pull-step e =
          let p-is = plan-is pulls e in
          let a-is = act-is acts.Pull p-is refl (returns_as pulls e tt) refl refl in
          let o : own? (frames ev s (suc k)) ≡ true = ap own? (frames-next acts.Pull a-is) ∙ older-own (frames ev s k) own in
          return-step acts.Pull p-is refl (returns_as pulls e tt) refl refl (λ q. ap (λ o. o.core) (outcome-is acts.Pull p-is))
          (λ q. absurd (true≢false (sym o ∙ q)))

      -- The chained entry leaves what the pull is to find, and the application's core in it.
      chain-holds : (d : ℕ) → inter ≡ chains d → Holds (after ev s (suc k)) (pulled (due ev s k).core (due ev s k).mem)
      unfolding perform
      chain-holds d e =
          let o_is = outcome-is (acts.Chain d) (plan-is (chains d) e) in
          let c = (due ev s k).core in
          record {
            tidy = (after-tidy (suc k)).core;
            back =
                pulled-found (due ev s k) (after ev s (suc k))
                (chained-found (due ev s k) (after ev s (suc k)) d (previous c.psw) (faulted? c.psw) (due-tidy k).core.eight
                (ap (λ t. t.core) next-is ∙ ap (λ o. o.core) o_is)
                (ap (λ t. t.mem) next-is ∙ ap (λ o. commit o.writes (due ev s k).mem) o_is ∙ commit-none (due ev s k).mem))
                (due-tidy k).core (after-tidy (suc k)).core.eight;
          }

      chain-step : (d : ℕ) → inter ≡ chains d → Sim ev s (suc k)
      unfolding perform
      chain-step d e =
          let p-is = plan-is (chains d) e in
          let a-is = act-is (acts.Chain d) p-is refl (returns_as (chains d) e tt) refl refl in
          let some : none? (frames ev s k) ≡ false = subst (λ a. Calm a (frames ev s k)) a-is (P.calm k below) in
          list_cases (frames ev s k)
          (λ q. absurd (true≢false (sym (ap none? q) ∙ some))) (λ f fs q.
          let o : f.own && own? fs ≡ true = sym (ap own? q) ∙ own in
          let is : frames ev s (suc k) ≡ frame (after ev s (suc k)) false ∷ fs =
          frames-next (acts.Chain d) a-is ∙ ap (chained (after ev s (suc k))) q
          ∙ ap (λ b. cond b (frame (after ev s (suc k)) false) f ∷ fs) (and_left f.own (own? fs) o) in
          return-step (acts.Chain d) p-is refl (returns_as (chains d) e tt) refl refl
          (λ z. absurd (false≢true (sym (ap own? is) ∙ z))) (λ z. subst (Outer (pulled (due ev s k).core (due ev s k).mem)) (sym is)
          (outer-in (pulled (due ev s k).core (due ev s k).mem) (frame (after ev s (suc k)) false) fs (and_right f.own (own? fs) o)
          (chain-holds d e))))

      -- An entry from the application.
      entry-holds : (d : ℕ) → inter ≡ accepts d → Holds (after ev s (suc k)) (free ev s k).core
      unfolding perform
      entry-holds d e =
          let o_is = outcome-is (acts.Accept d) (plan-is (accepts d) e) in
          let c = (due ev s k).core in
          let sv : Saved (after ev s (suc k)) (free ev s k).core =
          subst (Saved (after ev s (suc k))) core_is
          (saves c (due ev s k).mem (due-tidy k).core (due-tidy k).size d (current c.psw) (false || faulted? c.psw)
          (after ev s (suc k)) (ap (λ t. t.core) next-is ∙ ap (λ o. o.core) o_is)
          (ap (λ t. t.mem) next-is ∙ ap (λ o. commit o.writes (due ev s k).mem) o_is)) in
          record {
            tidy = (after-tidy (suc k)).core;
            back =
                restores (free ev s k).core (after ev s (suc k)) (after ev s (suc k)) (free-tidy k).core S.awake sv
                (found-refl (after ev s (suc k))) (after-tidy (suc k)).core.eight;
          }

      entry-step : (d : ℕ) → inter ≡ accepts d → Sim ev s (suc k)
      entry-step d e =
          let a-is : act ev s k ≡ acts.Accept d = ap (λ p. p.act) (plan-is (accepts d) e) in
          let is = frames-next (acts.Accept d) a-is in
          other_step (rw (own, ap accepts_none? a-is) refl)
          (λ z. absurd (false≢true (sym (ap own? is) ∙ z))) (λ z. subst (Outer (free ev s k).core) (sym is)
          (outer-in (free ev s k).core (frame (after ev s (suc k)) false) (frames ev s k) own (entry-holds d e)))

      own-step : Sim ev s (suc k)
      own-step = interrupt-cases inter pull-step chain-step entry-step instruction-step

      -- alone, the same act; of a chained return, a pull
      same-act : application? ev s k ≡ true → NoChain (act ev s k) → (plan_of (free ev s k)).act ≡ act ev s k
      unfolding perform
      same-act mine u =
          interrupt-cases inter
          (λ e. (free-pulled acts.Pull (plan-is pulls e) refl (returns_as pulls e tt) refl refl).act
          ∙ sym (ap (λ p. p.act) (plan-is pulls e)))
          (λ d e. absurd (u d (ap (λ p. p.act) (plan-is (chains d) e))))
          (λ d e. absurd (true≢false (sym mine ∙ rw (own, ap (λ p. accepts_none? p.act) (plan-is (accepts d) e)) refl)))
          (λ e. (both e).act)

      same_return : (d : ℕ) → act ev s k ≡ acts.Chain d → (plan_of (free ev s k)).act ≡ acts.Pull
      unfolding perform
      same_return d q =
          interrupt-cases inter
          (λ e. (free-pulled acts.Pull (plan-is pulls e) refl (returns_as pulls e tt) refl refl).act)
          (λ x e. (free-pulled (acts.Chain x) (plan-is (chains x) e) refl (returns_as (chains x) e tt) refl refl).act)
          (λ x e. absurd (false≢true (sym (ap (λ p. accepts_none? p.act) (plan-is (accepts x) e)) ∙ ap accepts_none? q)))
          (λ e. absurd (steady-no-chain (act ev s k) (steady e) d q))

    -- With a device frame open.
    module _ (device : own? (frames ev s k) ≡ false) where
      -- a return that closes the outermost device frame
      closing : (f : Frame) (fs : List Frame) → frames ev s k ≡ f ∷ fs → act ev s k ≡ acts.Pull → f.own ≡ false
          → Holds f.held (free ev s k).core
          → (finished (due ev s k)).core ≡ (free ev s k).core
      unfolding perform
      closing f fs q a o H =
          let p : (plan_of (due ev s k)).core ≡ (due ev s k).core =
          plan-core (due ev s k) faultless (λ z. subst Steady a z) in
          ap (λ x. x.core) (λ i. perform (a i) (p i) (due ev s k).lines (due ev s k).mem)
          ∙ pulled-found f.held (due ev s k) (P.restored k f fs below a q o) H.tidy (due-tidy k).core.eight
          ∙ H.back

      Next : List Frame → Type 0
      Next fs = (own? fs ≡ true → (finished (due ev s k)).core ≡ (free ev s k).core) × (own? fs ≡ false → Outer (free ev s k).core fs)

      opened : (f : Frame) → f.own && own? (frames ev s k) ≡ false → Next (f ∷ frames ev s k)
      unfolding Next
      opened f o =
          ((λ z. absurd (false≢true (sym o ∙ z))), (λ z. outer-over (free ev s k).core f (frames ev s k) device (S.outer device)))

      same : Next (frames ev s k)
      unfolding Next
      same = ((λ z. absurd (false≢true (sym device ∙ z))), S.outer)

      pulled-next : act ev s k ≡ acts.Pull → Next (older (frames ev s k))
      unfolding Next
      pulled-next a =
          list_cases (frames ev s k)
          (λ q. absurd (true≢false (sym (ap own? q) ∙ device))) (λ f fs q.
          let o : f.own && own? fs ≡ false = sym (ap own? q) ∙ device in
          let w : Outer (free ev s k).core (f ∷ fs) = subst (Outer (free ev s k).core) q (S.outer device) in
          subst (λ gs. Next (older gs)) (sym q) (
            (λ z. closing f fs q a (newest-device f fs o z) (outer-out (free ev s k).core f fs z w)),
            (λ z. outer-under (free ev s k).core f fs z w),
          ))

      -- a chaining onto a device's frame
      chained-next : Next (chained (after ev s (suc k)) (frames ev s k))
      unfolding Next
      chained-next =
          list_cases (frames ev s k)
          (λ q. absurd (true≢false (sym (ap own? q) ∙ device))) (λ f fs q.
          let o : f.own && own? fs ≡ false = sym (ap own? q) ∙ device in
          let w : Outer (free ev s k).core (f ∷ fs) = subst (Outer (free ev s k).core) q (S.outer device) in
          let t = after ev s (suc k) in
          let g = cond f.own (frame t false) f in
          subst (λ gs. Next (chained t gs)) (sym q)
          (bool_cases (own? fs) (λ z. subst (λ b. Next (cond b (frame t false) f ∷ fs)) (sym (newest-device f fs o z))
          ((λ y. absurd (false≢true (sym o ∙ y))), (λ y. w))) (λ z. (
            (λ y. absurd (false≢true (sym z ∙ and_right g.own (own? fs) y))),
            (λ y. outer-over (free ev s k).core g fs z (outer-under (free ev s k).core f fs z w)),
          ))))

      inside : (a : Act) → act ev s k ≡ a → Calm a (frames ev s k) → Next (frames_after a (after ev s (suc k)) (frames ev s k))
      inside acts.Stopped q c = same
      inside acts.Pull q c = pulled-next q
      inside (acts.Chain d) q c = chained-next
      inside (acts.Accept d) q c = opened (frame (after ev s (suc k)) false) refl
      inside acts.Sleep q c = same
      inside (acts.Fault v) q c = absurd c
      inside acts.Halt q c = absurd c
      inside acts.Skip q c = same
      inside (acts.Trap v) q c = opened (frame (after ev s (suc k)) (own? (frames ev s k))) (rw device refl)
      inside acts.Plain q c = same
      inside (acts.Loads byte a d) q c = same
      inside (acts.Stores byte a v) q c = same

      device-step : Sim ev s (suc k)
      unfolding Next
      device-step =
          let i = subst Next (sym (frames-next (act ev s k) refl)) (inside (act ev s k) refl (P.calm k below)) in
          other_step (rw device refl) i.0 i.1

    next : Sim ev s (suc k)
    next = bool_cases (own? (frames ev s k)) own-step device-step

  sim : (k : ℕ) → k ≤ n → Sim ev s k
  sim zero h = start
  sim (suc k) h = next k h (sim k (omega arith))

  -- whenever no device frame is open
  pub agree : (k : ℕ) → k ≤ n → own? (frames ev s k) ≡ true → Agree memory r events k
  agree k h own = record { core = (sim k h).here own; bytes = (sim k h).bytes }

  own_open : (k : ℕ) → application? ev s k ≡ true → own? (frames ev s k) ≡ true
  own_open k mine = and_left (own? (frames ev s k)) (accepts_none? (act ev s k)) mine

  own_after : (k : ℕ) → k < n → application? ev s k ≡ true → NoChain (act ev s k) → own? (frames ev s (suc k)) ≡ true
  own_after k h mine c =
      ap own? (frames-next k h (sim k (omega arith)) (act ev s k) refl)
      ∙ frames-own (act ev s k) (after ev s (suc k)) (frames ev s k) (and_right (own? (frames ev s k)) (accepts_none? (act ev s k)) mine) c
      (P.calm k h) (own_open k mine)

  -- ---- the pull after a chaining

  -- With a device frame open before step k, the pull after which none is.
  record PullFrom (k : ℕ) : Type 0 where
    at : ℕ
    since : k ≤ at
    within : at < n
    pulls-at : act ev s at ≡ acts.Pull
    device_until : (i : ℕ) → k ≤ i → i ≤ at → own? (frames ev s i) ≡ false
    own_after : own? (frames ev s (suc at)) ≡ true
    uncounted : application_steps ev s (suc at) ≡ application_steps ev s k

  device-uncounted : (k : ℕ) → own? (frames ev s k) ≡ false → application_steps ev s (suc k) ≡ application_steps ev s k
  unfolding application_steps
  device-uncounted k o = ap (λ b. cond (b && accepts_none? (act ev s k)) (suc (application_steps ev s k)) (application_steps ev s k)) o

  pull-from : (m k : ℕ) → k + m ≡ n → own? (frames ev s k) ≡ false → PullFrom k
  unfolding frames
  pull-from zero k e o =
      let z : n ≡ k = omega arith in
      absurd (true≢false (sym P.devices_closed ∙ ap (λ j. own? (frames ev s j)) z ∙ o))
  pull-from (suc m) k e o =
      bool_cases (own? (frames ev s (suc k)))
      (λ q.
      record {
        at = k;
        since = omega arith;
        within = omega arith;
        pulls-at = leaves_none (act ev s k) (after ev s (suc k)) (frames ev s k) o q;
        device_until = λ i a b. let z : k ≡ i = omega arith in subst (λ j. own? (frames ev s j) ≡ false) z o;
        own_after = q;
        uncounted = device-uncounted k o;
      })
      (λ q.
      let u = pull-from m (suc k) (omega arith) q in
      record {
        at = u.at;
        since = let h = u.since in omega arith;
        within = u.within;
        pulls-at = u.pulls-at;
        device_until = λ i a b.
            bool_cases (eqb k i)
            (λ z. let w : k ≡ i = eq_of z in subst (λ j. own? (frames ev s j) ≡ false) w o)
            (λ z. let d : k ≢ i = neq-of z in u.device_until i (omega arith) b);
        own_after = u.own_after;
        uncounted = u.uncounted ∙ device-uncounted k o;
      })

  module _ (k d : ℕ) (h : k < n) (mine : application? ev s k ≡ true) (c : act ev s k ≡ acts.Chain d) where
    chained-open : own? (frames ev s (suc k)) ≡ false
    chained-open =
        ap own? (frames-next k h (sim k (omega arith)) (acts.Chain d) c)
        ∙ chained-device (after ev s (suc k)) (frames ev s k) (subst (λ a. Calm a (frames ev s k)) c (P.calm k h))

    counted-once : application_steps ev s (suc k) ≡ suc (application_steps ev s k)
    unfolding application_steps
    counted-once = ap (λ b. cond b (suc (application_steps ev s k)) (application_steps ev s k)) mine

    read-after-pull : ReadAfterPull memory r events n k
    read-after-pull =
        let u = pull-from (n - suc k) (suc k) (omega arith) chained-open in
        record {
          at = u.at;
          later = u.since;
          within = u.within;
          pulls = u.pulls-at;
          device_until = λ i a b. u.device_until i a b;
          own_after = u.own_after;
          counted = u.uncounted ∙ counted-once;
          agree = agree (suc u.at) u.within u.own_after;
        }

  -- what the run with no events does where the application does step k
  free-act : (k : ℕ) → act [] s (application_steps ev s k) ≡ (plan_of (free ev s k)).act
  free-act k = ap (λ t. (plan_of t).act) (deliver-none (free ev s k))

  pub resumes-wider : Resumes memory r events n
  resumes-wider =
      record {
        before_step = λ k h mine. agree k (omega arith) (own_open k mine);
        after_step = λ k h mine c. agree (suc k) h (own_after k h mine c);
        after_chaining = read-after-pull;
        at_close = agree n (omega arith) P.devices_closed;
        same_steps = λ k h mine u. free-act k ∙ same-act k h (sim k (omega arith)) (own_open k mine) mine u;
        same_return = λ k d h mine c. free-act k ∙ same_return k h (sim k (omega arith)) (own_open k mine) d c;
      }

-- the premises as document 02, §13 words them imply the wider ones
pub widened : (memory r events : List ℕ) (n : ℕ) → Premises memory r events n → WiderPremises memory r events n
widened memory r events n P =
    record {
      accepted = P.accepted;
      awake = P.awake;
      not_halted = P.not_halted;
      no_line = P.no_line;
      calm = P.calm;
      devices_closed = ap own? P.closed;
      restored = P.restored;
      never_sleeps = P.never_sleeps;
      reads_own = P.reads_own;
    }

-- demand 3, as document 02, §13 has it
pub resumes : (memory r events : List ℕ) (n : ℕ) → Premises memory r events n → Resumes memory r events n
resumes memory r events n P = resumes-wider memory r events n (widened memory r events n P)
