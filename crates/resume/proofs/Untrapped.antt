-- Without SVC the application's steps, what they read and the last writers are what document 01 says, the premises are
-- the same, and demand 3 as document 01 has it follows from resumption across traps. Assumes nothing.
use Prim.Native.Nat.{ℕ, zero, suc, ◌<◌, ◌≤◌}
use mathlib.Core.Bool.{true, false, cond, not, ◌&&◌, true≢false, false≢true}
use mathlib.Core.List.{List, []}
use mathlib.Core.Path.{◌≡◌, refl, sym, ap, subst, ◌∙◌}
use native.Mathlib.Omega.{arith}
use Rattle.machine.specs.State.{Core, State}
use Rattle.machine.specs.Memory.{byte_at, writes?}
use Rattle.machine.specs.Record.{state_in}
use Rattle.machine.specs.Events.{Event, events_of}
use Rattle.machine.specs.Run.{run_of}
use Rattle.machine.specs.declared.Act.{Act}
use Rattle.machine.specs.Step.{outcome_of}
use Rattle.machine.specs.declared.Act.TheVariants as acts
use Rattle.machine_laws.specs.Bounds.{Each}
use Rattle.machine_laws.proofs.Cases.{list_cases}
use Rattle.resume.specs.Frames.{accepts_none?, own_writes?, Calm, svc?, NoChain, instruction_reads, reads_of, due, act, frames}
use Rattle.resume.specs.Frames.{application?, application_steps, foreign?}
use Rattle.resume.specs.Resume.{Premises, Agree}
use Rattle.resume.specs.Untrapped.{unframed?, unframed_steps, handled?, UntrappedPremises, UntrappedAgree, UntrappedResumes}
use Rattle.resume.proofs.Devices.{Devices, devices-own, frames-devices}
use Rattle.resume.proofs.Step.{each_map}
use Rattle.resume.proofs.Resume.{resumes}

-- with no frame open there is no return: nothing more is read than an instruction reads
calm-reads : (a : Act) (c : Core) → Calm a [] → svc? a ≡ false → reads_of a c ≡ instruction_reads a c
calm-reads acts.Stopped c h u = refl
calm-reads acts.Pull c h u = absurd (true≢false h)
calm-reads (acts.Chain d) c h u = absurd (true≢false h)
calm-reads (acts.Accept d) c h u = refl
calm-reads acts.Sleep c h u = refl
calm-reads (acts.Fault v) c h u = refl
calm-reads acts.Halt c h u = refl
calm-reads acts.Skip c h u = refl
calm-reads (acts.Trap v) c h u = absurd (true≢false u)
calm-reads acts.Plain c h u = refl
calm-reads (acts.Loads byte a d) c h u = refl
calm-reads (acts.Stores byte a v) c h u = refl

-- and what such a step writes is the application's, unless it accepts a line
unframed-writes : (a : Act) → svc? a ≡ false → own_writes? a [] ≡ accepts_none? a
unframed-writes acts.Stopped u = refl
unframed-writes acts.Pull u = refl
unframed-writes (acts.Chain d) u = refl
unframed-writes (acts.Accept d) u = refl
unframed-writes acts.Sleep u = refl
unframed-writes (acts.Fault v) u = refl
unframed-writes acts.Halt u = refl
unframed-writes acts.Skip u = refl
unframed-writes (acts.Trap v) u = absurd (true≢false u)
unframed-writes acts.Plain u = refl
unframed-writes (acts.Loads byte a d) u = refl
unframed-writes (acts.Stores byte a v) u = refl

-- ---- a run of n steps with no SVC

module _ (ev : List Event) (s : State) (n : ℕ) (no_svc : (k : ℕ) → k < n → svc? (act ev s k) ≡ false) where
  -- the application's steps
  pub application-unframed : (k : ℕ) → k ≤ n → application? ev s k ≡ unframed? ev s k
  application-unframed k h = ap (λ b. b && accepts_none? (act ev s k)) (devices-own (frames ev s k) (frames-devices ev s n no_svc k h))

  pub steps-unframed : (k : ℕ) → k ≤ n → application_steps ev s k ≡ unframed_steps ev s k
  unfolding application_steps unframed_steps
  steps-unframed zero h = refl
  steps-unframed (suc k) h =
      let e = steps-unframed k (omega arith) in
      λ i. cond (application-unframed k (omega arith) i) (suc (e i)) (e i)

  -- the last writers
  writes-unframed : (k : ℕ) → k < n → own_writes? (act ev s k) (frames ev s k) ≡ unframed? ev s k
  writes-unframed k h =
      list_cases (frames ev s k)
      (λ q. rw q (unframed-writes (act ev s k) (no_svc k h))) (λ f fs q.
      let o : f.own ≡ false = (subst Devices q (frames-devices ev s n no_svc k (omega arith))).0 in
      rw (q, o) refl)

  pub foreign-handled : (k : ℕ) → k ≤ n → (a : ℕ) → foreign? ev s k a ≡ handled? ev s k a
  unfolding foreign? handled?
  foreign-handled zero h a = refl
  foreign-handled (suc k) h a =
      let e = foreign-handled k (omega arith) a in
      λ i. cond (writes? (outcome_of (due ev s k)).writes a) (not (writes-unframed k h i)) (e i)

  none_open : (k : ℕ) → unframed? ev s k ≡ true → frames ev s k ≡ []
  none_open k mine = list_cases (frames ev s k) (λ q. q) (λ f fs q. absurd (false≢true (rw q at mine)))

  calm-none : (k : ℕ) → Calm (act ev s k) (frames ev s k) → unframed? ev s k ≡ true → Calm (act ev s k) []
  calm-none k c mine = subst (Calm (act ev s k)) (none_open k mine) c

  -- what the application's steps read
  pub reads-unframed : (k : ℕ) → k < n → Calm (act ev s k) (frames ev s k) → unframed? ev s k ≡ true
      → reads_of (act ev s k) (due ev s k).core ≡ instruction_reads (act ev s k) (due ev s k).core
  reads-unframed k h c mine = calm-reads (act ev s k) (due ev s k).core (calm-none k c mine) (no_svc k h)

  -- none of them chains
  unframed-no-chain : (k : ℕ) → Calm (act ev s k) (frames ev s k) → unframed? ev s k ≡ true → NoChain (act ev s k)
  unframed-no-chain k c mine d e = true≢false (subst (λ a. Calm a []) e (calm-none k c mine))

-- ---- the premises

module _ (memory r events : List ℕ) (n : ℕ) where
  abbrev ev : List Event
  ev = events_of events

  abbrev s : State
  s = state_in r memory

  -- those of document 01 are those of Resume, and no SVC
  pub untrapped-premises : UntrappedPremises memory r events n → Premises memory r events n
  untrapped-premises P =
      let same = application-unframed ev s n P.no_svc in
      record {
        accepted = P.accepted;
        awake = P.awake;
        not_halted = P.not_halted;
        no_line = P.no_line;
        calm = P.calm;
        own_traps = λ k h a. absurd (true≢false (sym a ∙ P.no_svc k h));
        closed = P.closed;
        restored = λ k f fs h a q o. P.restored k f fs h a q;
        never_sleeps = λ k h mine. P.never_sleeps k h (sym (same k (omega arith)) ∙ mine);
        reads_own = λ k h mine.
            let own = sym (same k (omega arith)) ∙ mine in
            subst (Each _) (sym (reads-unframed ev s n P.no_svc k h (P.calm k h) own))
            (each_map _ _ (λ a p. (p.0, foreign-handled ev s n P.no_svc k (omega arith) a ∙ p.1))
            (instruction_reads (act ev s k) (due ev s k).core) (P.reads_own k h own));
      }

  pub premises-untrapped : Premises memory r events n → ((k : ℕ) → k < n → svc? (act ev s k) ≡ false) → UntrappedPremises memory r events n
  premises-untrapped P no_svc =
      let same = application-unframed ev s n no_svc in
      record {
        accepted = P.accepted;
        awake = P.awake;
        not_halted = P.not_halted;
        no_line = P.no_line;
        calm = P.calm;
        no_svc = no_svc;
        closed = P.closed;
        restored = λ k f fs h a q. P.restored k f fs h a q (subst Devices q (frames-devices ev s n no_svc k (omega arith))).0;
        never_sleeps = λ k h own. P.never_sleeps k h (same k (omega arith) ∙ own);
        reads_own = λ k h own.
            each_map _ _ (λ a p. (p.0, sym (foreign-handled ev s n no_svc k (omega arith) a) ∙ p.1))
            (instruction_reads (act ev s k) (due ev s k).core)
            (subst (Each _) (reads-unframed ev s n no_svc k h (P.calm k h) own) (P.reads_own k h (same k (omega arith) ∙ own)));
      }

  -- ---- the conclusion

  module _ (P : UntrappedPremises memory r events n) where
    agree-untrapped : (k : ℕ) → k ≤ n → Agree memory r events k → UntrappedAgree memory r events k
    agree-untrapped k h A =
        let free = ap (λ j. (run_of [] s j).state) (steps-unframed ev s n P.no_svc k h) in
        record {
          core = A.core ∙ ap (λ t. t.core) free;
          bytes = λ a b d w. A.bytes a b d (foreign-handled ev s n P.no_svc k h a ∙ w) ∙ ap (λ t. byte_at t.mem a) free;
        }

    -- demand 3 as document 01 has it
    pub resumes-untrapped : UntrappedResumes memory r events n
    resumes-untrapped =
        let R = resumes memory r events n (untrapped-premises P) in
        let same = application-unframed ev s n P.no_svc in
        record {
          before_step = λ k h own. agree-untrapped k (omega arith) (R.before_step k h (same k (omega arith) ∙ own));
          after_step = λ k h own.
              agree-untrapped (suc k) h
              (R.after_step k h (same k (omega arith) ∙ own) (unframed-no-chain ev s n P.no_svc k (P.calm k h) own));
          at_close = agree-untrapped n (omega arith) R.at_close;
        }
