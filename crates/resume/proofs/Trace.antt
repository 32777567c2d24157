-- How a run goes on from a state whose bytes are known: a row for each step, and the next row from it. Memory is a list of
-- writes over zeros, of which only the bytes that a step reads are ever looked at. Assumes nothing.
use Prim.Native.Nat.{ℕ, zero, suc, ◌+◌, ◌*◌, ◌%◌, ◌<◌}
use mathlib.Core.Bool.{Bool, true, false, cond, not, ◌&&◌}
use mathlib.Core.List.{List, ◌++◌}
use mathlib.Core.Path.{◌≡◌, refl, sym, ap, ◌∙◌}
use native.Mathlib.Omega.{arith}
use lib.Dec.{eqb, ltb}
use lib.ListN.{length, set, replicate, length-replicate}
use Rattle.word.specs.Psw.{asleep?, current, previous}
use Rattle.isa.specs.Decode.{decode_of}
use Rattle.machine.specs.State.{Core, State, sp, pc, wrap}
use Rattle.machine.specs.Memory.{Write, commit, writes?, byte_at, word_at, even}
use Rattle.machine.specs.Events.{Event}
use Rattle.machine.specs.Devices.{status_of, ena?, ie?, raised, event_writes, event_on, deliver}
use Rattle.machine.specs.Cex.{skips?}
use Rattle.machine.specs.Entry.{best, priority, vectored, entered_psw, vector_psw, vector_pc, pulled, pulled_psw, pulled_cex}
use Rattle.machine.specs.Effect.{effect_of}
use Rattle.machine.specs.declared.Act.{Act}
use Rattle.machine.specs.Step.{Outcome, planned, Interrupt, pulls, chains, accepts, nothing, interrupt_of, returns?, advanced, executed}
use Rattle.machine.specs.declared.Act.TheVariants as acts
use Rattle.machine.specs.Step.{faulting, instruction_of, chosen, plan_of, perform, outcome_of, closed, finished}
use Rattle.machine_laws.proofs.Memory.{over, commit-at, commit-append}
use Rattle.machine_laws.proofs.Plans.{plan-live}
use Rattle.machine_laws.proofs.Runs.{step-live, run_step}
use Rattle.resume.specs.Frames.{Frame, frames_after, own_step?, own_writes?, after, due, act, frames, application?, application_steps}
use Rattle.resume.specs.Frames.{foreign?}
use Rattle.resume.specs.Example.{zeros}

-- ---- bytes of the memory

pub zero-at : (n a : ℕ) → byte_at (replicate n 0) a ≡ 0
zero-at zero a = refl
zero-at (suc n) zero = refl
zero-at (suc n) (suc a) = zero-at n a

pub zeros-length : length zeros ≡ 65536
unfolding zeros
zeros-length = length-replicate {A = ℕ} 65536 0

pub byte-is : (ws : List Write) (a : ℕ) → a < 65536 → byte_at (commit ws zeros) a ≡ over ws a 0
unfolding zeros
byte-is ws a h = commit-at ws zeros a (rw zeros-length h) ∙ ap (over ws a) (zero-at 65536 a)

pub word-is : (ws : List Write) (a : ℕ) → a < 65536 → word_at (commit ws zeros) a ≡ over ws (even a) 0 + 256 * over ws (even a + 1) 0
word-is ws a h = λ i. byte-is ws (even a) (omega arith) i + 256 * byte-is ws (even a + 1) (omega arith) i

-- ---- plans

-- a fetched word
pub fetch-plan : (s : State) (w : ℕ) → s.halted ≡ false → interrupt_of s.core s.lines s.mem ≡ nothing
    → asleep? s.core.psw ≡ false → eqb (pc s.core % 2) 1 ≡ false → skips? s.core.cex ≡ false → word_at s.mem (pc s.core) ≡ w
    → plan_of s ≡ executed s.core (effect_of (advanced s.core) (decode_of w)) s.mem
unfolding instruction_of
fetch-plan s w live quiet awake even whole fetched =
    let c = s.core in
    let m = s.mem in
    let e = executed c (effect_of (advanced c) (decode_of (word_at m (pc c)))) m in
    plan-live s live
    ∙ ap (λ i. chosen i c (instruction_of c m)) quiet
    ∙ ap (λ b. cond b (planned c acts.Sleep)
    (cond (eqb (pc c % 2) 1) (faulting c c 9) (cond (skips? c.cex) (planned (advanced c) acts.Skip) e))) awake
    ∙ ap (λ b. cond b (faulting c c 9) (cond (skips? c.cex) (planned (advanced c) acts.Skip) e)) even
    ∙ ap (λ b. cond b (planned (advanced c) acts.Skip) e) whole
    ∙ ap (λ x. executed c (effect_of (advanced c) (decode_of x)) m) fetched

-- a return or an acceptance, by the best line and its priority
abbrev interrupted : Core → (d p : ℕ) → Interrupt
interrupted c d p =
    cond (returns? c)
    (cond (ltb d 8 && ltb (previous c.psw) p) (chains d) pulls) (cond (ltb d 8 && ltb (current c.psw) p) (accepts d) nothing)

pub interrupt-is : (c : Core) (l d p : ℕ) (m : List ℕ) → best l m ≡ d → priority m d ≡ p → interrupt_of c l m ≡ interrupted c d p
unfolding interrupt_of
interrupt-is c l d p m b e = ap (λ x. interrupted c x (priority m x)) b ∙ ap (interrupted c d) e

pub interrupt-plan : (s : State) (i : Interrupt) → s.halted ≡ false → interrupt_of s.core s.lines s.mem ≡ i
    → plan_of s ≡ chosen i s.core (instruction_of s.core s.mem)
interrupt-plan s i live e = plan-live s live ∙ ap (λ x. chosen x s.core (instruction_of s.core s.mem)) e

-- ---- what a step leaves

pub vectored-is : (c : Core) (m : List ℕ) (v q : ℕ) (b : Bool) (s p x : ℕ) → vector_psw m v ≡ p → vector_pc m v ≡ x
    → vectored c m v q b s ≡ record { regs = set (set (set c.regs 5 0xFFFF) 6 s) 7 x; psw = entered_psw p q b; cex = 0 }
unfolding vectored
vectored-is c m v q b s p x e f =
    λ i. record { regs = set (set (set c.regs 5 0xFFFF) 6 s) 7 (f i); psw = entered_psw (e i) q b; cex = 0 }

pub pulled-is : (c : Core) (m : List ℕ) (x p l y : ℕ) → word_at m (sp c) ≡ x → word_at m (wrap (sp c + 2)) ≡ p
    → word_at m (wrap (sp c + 4)) ≡ l
    → word_at m (wrap (sp c + 6)) ≡ y
    → pulled c m ≡ record { regs = set (set (set c.regs 5 l) 6 (wrap (sp c + 8))) 7 y; psw = pulled_psw p; cex = pulled_cex x }
unfolding pulled
pulled-is c m x p l y ex ep el ey =
    λ i. record { regs = set (set (set c.regs 5 (el i)) 6 (wrap (sp c + 8))) 7 (ey i); psw = pulled_psw (ep i); cex = pulled_cex (ex i) }

-- an event on a device whose status byte is known
pub event-is : (e : Event) (s : State) (t : ℕ) → byte_at s.mem (status_of e.device) ≡ t
    → event_on e s
    ≡ cond (ena? t)
    (record {
      core = s.core;
      lines = cond (ie? t) (raised s.lines e.device) s.lines;
      halted = s.halted;
      count = s.count;
      mem = commit (event_writes e t) s.mem;
    })
    s
unfolding event_on
event-is e s t h =
    ap (λ x. cond (ena? x)
    (record {
      core = s.core;
      lines = cond (ie? x) (raised s.lines e.device) s.lines;
      halted = s.halted;
      count = s.count;
      mem = commit (event_writes e x) s.mem;
    })
    s) h

-- ---- rows

-- a machine that is not halted, its memory the writes ws over zeros
abbrev pub known : Core → (lines count : ℕ) → List Write → State
known c l n ws = record { core = c; lines = l; halted = false; count = n; mem = commit ws zeros }

pub closed_is : (o : Outcome) (n : ℕ) (ws : List Write) → o.halted ≡ false
    → closed o n (commit ws zeros) ≡ known o.core o.lines (n + 1) (ws ++ o.writes)
closed_is o n ws h =
    λ i. record { core = o.core; lines = o.lines; halted = h i; count = n + 1; mem = sym (commit-append ws o.writes zeros) i }

-- an event on such a machine, on a device whose status byte is t
pub event-known : (e : Event) (c : Core) (l n : ℕ) (ws : List Write) (t : ℕ) → status_of e.device < 65536
    → over ws (status_of e.device) 0 ≡ t
    → ena? t ≡ true → event_on e (known c l n ws) ≡ known c (cond (ie? t) (raised l e.device) l) n (ws ++ event_writes e t)
event-known e c l n ws t h o q =
    event-is e (known c l n ws) t (byte-is ws (status_of e.device) h ∙ o)
    ∙ ap (λ b. cond b (risen (commit (event_writes e t) (commit ws zeros))) (known c l n ws)) q
    ∙ ap risen (sym (commit-append ws (event_writes e t) zeros))
  where
    risen : List ℕ → State
    risen m = record { core = c; lines = cond (ie? t) (raised l e.device) l; halted = false; count = n; mem = m }

module _ (ev : List Event) (s : State) where
  -- Before step k the run is in the state t; its due events make it d, and it does a from the core c. The frames fs are
  -- open, the application has done n steps, and g marks the bytes last written by a handler or an entry.
  pub record Row (k : ℕ) (t d : State) (c : Core) (a : Act) (fs : List Frame) (n : ℕ) (g : ℕ → Bool) : Type 0 where
    pub state_is : after ev s k ≡ t
    pub due-is : due ev s k ≡ d
    pub plan-is : plan_of d ≡ planned c a
    pub frames-are : frames ev s k ≡ fs
    pub steps-are : application_steps ev s k ≡ n
    pub foreign-is : (x : ℕ) → foreign? ev s k x ≡ g x

  module _ {k : ℕ} {t d : State} {c : Core} {a : Act} {fs : List Frame} {n : ℕ} {g : ℕ → Bool} (R : Row k t d c a fs n g) where
    pub act-is : act ev s k ≡ a
    act-is = ap (λ x. (plan_of x).act) R.due-is ∙ ap (λ p. p.act) R.plan-is

    pub application-is : application? ev s k ≡ (own_step? a fs)
    application-is = λ i. own_step? (act-is i) (R.frames-are i)

    outcome-is : outcome_of (due ev s k) ≡ perform a c d.lines d.mem
    outcome-is = ap outcome_of R.due-is ∙ ap (λ p. perform p.act p.core d.lines d.mem) R.plan-is

  -- the next row: what the step leaves, its due events, and what is done then
  module _ (ws : List Write) {k : ℕ} {t : State} {cd : Core} {l m : ℕ} {c : Core} {a : Act} {fs : List Frame} {n : ℕ} {g : ℕ → Bool}
      (R : Row k t (known cd l m ws) c a fs n g) (live : t.halted ≡ false) (o : Outcome)
      (leaves : perform a c l (commit ws zeros) ≡ o) (going : o.halted ≡ false) where
    pub next-state : after ev s (suc k) ≡ known o.core o.lines (m + 1) (ws ++ o.writes)
    next-state =
        run_step ev s k
        ∙ step-live ev (after ev s k) (ap (λ x. x.halted) R.state_is ∙ live)
        ∙ ap finished R.due-is
        ∙ ap (λ p. closed (perform p.act p.core l (commit ws zeros)) m (commit ws zeros)) R.plan-is
        ∙ ap (λ x. closed x m (commit ws zeros)) leaves
        ∙ closed_is o m ws going

    pub next-frames : frames ev s (suc k) ≡ frames_after a (known o.core o.lines (m + 1) (ws ++ o.writes)) fs
    unfolding frames
    next-frames = λ i. frames_after (act-is R i) (next-state i) (R.frames-are i)

    pub next-steps : application_steps ev s (suc k) ≡ cond (own_step? a fs) (suc n) n
    unfolding application_steps
    next-steps = λ i. cond (application-is R i) (suc (R.steps-are i)) (R.steps-are i)

    pub next-foreign : (x : ℕ) → foreign? ev s (suc k) x ≡ cond (writes? o.writes x) (not (own_writes? a fs)) (g x)
    unfolding foreign?
    next-foreign x =
        λ i. cond (writes? ((outcome-is R ∙ leaves) i).writes x) (not (own_writes? (act-is R i) (R.frames-are i))) (R.foreign-is x i)

    pub next_row : (d' : State) (c' : Core) (a' : Act) → deliver ev (known o.core o.lines (m + 1) (ws ++ o.writes)) ≡ d'
        → plan_of d' ≡ planned c' a'
        → Row (suc k) (known o.core o.lines (m + 1) (ws ++ o.writes)) d' c' a'
        (frames_after a (known o.core o.lines (m + 1) (ws ++ o.writes)) fs) (cond (own_step? a fs) (suc n) n)
        (λ x. cond (writes? o.writes x) (not (own_writes? a fs)) (g x))
    next_row d' c' a' then does =
        record {
          state_is = next-state;
          due-is = ap (deliver ev) next-state ∙ then;
          plan-is = does;
          frames-are = next-frames;
          steps-are = next-steps;
          foreign-is = next-foreign;
        }
