-- A step where no line waits is its return or its instruction: point 3 finds no line above any priority. A return then pulls, and SVC to a
-- vector above the priority enters it; neither shows anything, so the log stays. Assumes nothing.
use Rattle.std.proofs.Common.{
  ◌≡◌,
  ℕ,
  ◌+◌,
  ◌*◌,
  ◌/◌,
  ◌%◌,
  ◌<◌,
  ◌≤◌,
  Bool,
  true,
  false,
  cond,
  List,
  length,
  get_or,
  set,
  sym,
  refl,
  ap,
  ◌∙◌,
  subst,
  arith,
  le-ltb,
  lt-ltb,
  eq-eqb,
}
use lib.Seq.{sets}
use Rattle.word.specs.Psw.{asleep?, current, previous}
use Rattle.isa.specs.declared.Instr.{Instr}
use Rattle.isa.specs.declared.Instr.TheVariants as i
use Rattle.isa.specs.Decode.{decode_of}
use Rattle.machine.specs.declared.Access.TheVariants as asks
use Rattle.machine.specs.declared.Act.TheVariants as act
use Rattle.machine.specs.declared.Depth.{Depth}
use Rattle.machine.specs.State.{State, core_of, wrap}
use Rattle.machine.specs.Memory.{word_at, commit}
use Rattle.machine.specs.Entry.{priority, pushes, pulled}
use Rattle.machine.specs.Effect.{effect_of}
use Rattle.machine.specs.Step.{Plan, planned, returns?, advanced, faulting, executed, plan_of, perform, entered}
use Rattle.machine.specs.Log.{logged_of, log_bytes}
use Rattle.machine.specs.Depth.{deeper, shallower, depth_after}
use Rattle.machine_laws.proofs.Plans.{granted-even}
use Rattle.entry.proofs.Lines.{line-no-lines}
use Rattle.entry.proofs.Quiet.{none-waits, shut_none, plan-runs}
use Rattle.step_plan.proofs.Laws.{leave-pulls, due-leaves}
use Rattle.stretch_memory.specs.Served.{running, carried_out}
use Rattle.frame_step.specs.Took.{Took}

-- ---- plans where no line waits

-- a return
pub plan-leaves :
    (regs m : List ℕ) (psw cex n : ℕ) → asleep? psw ≡ false → get_or regs 7 0 ≡ 0xFFFF
    → plan_of (running regs psw cex 0 n m) ≡ planned (core_of regs psw cex) act.Pull
plan-leaves regs m psw cex n woken at =
    let c = core_of regs psw cex in
    let r : returns? c ≡ true = rw (woken, eq-eqb _ _ at) refl in
    sym
    (due-leaves (running regs psw cex 0 n m) refl r
    (λ p. leave-pulls c 0 8 (previous psw) m refl (line-no-lines m 0 (previous psw) refl) p (omega arith)))

-- an instruction from an even PC, where no block is open: its core has PC past its word
pub plan-fetches :
    (regs m : List ℕ) (psw cex n w : ℕ) → asleep? psw ≡ false → get_or regs 7 0 % 2 ≡ 0 → cex % 64 ≡ 0 → w ≡ word_at m (get_or regs 7 0)
    → plan_of (running regs psw cex 0 n m)
    ≡ executed (core_of regs psw cex) (effect_of (core_of (set regs 7 (wrap (get_or regs 7 0 + 2))) psw cex) (decode_of w)) m
unfolding advanced
plan-fetches regs m psw cex n w woken even shut ew =
    let c = core_of regs psw cex in
    let o = shut_none cex shut in
    plan-runs (running regs psw cex 0 n m) refl even woken (none-waits 0 (current psw) m refl) o.0
    ∙ (λ j. executed c (effect_of (core_of (set regs 7 (wrap (get_or regs 7 0 + 2))) psw (o.1 j)) (decode_of (sym ew j))) m)

-- ---- SVC

decode-trap : (w : ℕ) → w / 16 ≡ 0x4DA → decode_of w ≡ i.Svc (w % 16)
unfolding decode_of
decode-trap w h =
    simp (
      le-ltb w 0x2000 (omega arith),
      le-ltb w 0x4000 (omega arith),
      le-ltb w 0x4C00 (omega arith),
      lt-ltb w 0x5000 (omega arith),
      le-ltb w 0x4C80 (omega arith),
      le-ltb w 0x4D00 (omega arith),
      le-ltb w 0x4D80 (omega arith),
      lt-ltb w 0x4E00 (omega arith),
      le-ltb w 0x4D88 (omega arith),
      le-ltb w 0x4DA0 (omega arith),
      lt-ltb w 0x4DB0 (omega arith),
    )

plan-traps :
    (regs m : List ℕ) (psw cex n w : ℕ) → asleep? psw ≡ false → get_or regs 7 0 % 2 ≡ 0 → cex % 64 ≡ 0 → w ≡ word_at m (get_or regs 7 0)
    → w / 16 ≡ 0x4DA → current psw < priority m (w % 16)
    → plan_of (running regs psw cex 0 n m) ≡ planned (core_of (set regs 7 (wrap (get_or regs 7 0 + 2))) psw cex) (act.Trap (w % 16))
unfolding effect_of
plan-traps regs m psw cex n w woken even shut ew h low =
    let c = core_of regs psw cex in
    let x = core_of (set regs 7 (wrap (get_or regs 7 0 + 2))) psw cex in
    plan-fetches regs m psw cex n w woken even shut ew
    ∙ ap (λ (u : Instr). executed c (effect_of x u) m) (decode-trap w h)
    ∙ granted-even c x (asks.Trap (w % 16)) m refl
    ∙ ap (λ (b : Bool). cond b (planned x (act.Trap (w % 16))) (faulting c (advanced c) 10))
    (lt-ltb (current psw) (priority m (w % 16)) low)

-- ---- the steps

-- what a plan leaves, carried out and counted, is the step
pub took-planned :
    (k : ℕ) (s s' : State) (d d' : Depth) (added added' : ℕ) (log log' : List ℕ) (p : Plan) → plan_of s ≡ p
    → s' ≡ carried_out p s.lines s.count s.mem → d' ≡ depth_after p.act d → added' ≡ added + length (logged_of p.act s)
    → log' ≡ sets log (8 * added) (log_bytes (logged_of p.act s)) → added' ≤ k → Took k s d added log s' d' added' log'
took-planned k s s' d d' added added' log log' p e es ed ea el fits =
    record {
      state = es ∙ ap (λ (q : Plan). carried_out q s.lines s.count s.mem) (sym e);
      depth = ed ∙ ap (λ (q : Plan). depth_after q.act d) (sym e);
      added = ea ∙ ap (λ (q : Plan). added + length (logged_of q.act s)) (sym e);
      log = el ∙ ap (λ (q : Plan). sets log (8 * added) (log_bytes (logged_of q.act s))) (sym e);
      room = fits;
    }

none_more : (n : ℕ) → n ≡ n + 0
none_more n = omega arith

module _ (regs m regs' : List ℕ) (psw cex psw' cex' : ℕ) (depth depth' : Depth) (woken : asleep? psw ≡ false)
    (count k added : ℕ) (log : List ℕ) (fits : added ≤ k) where
  -- a return, as the code takes it
  pub took-leave :
      get_or regs 7 0 ≡ 0xFFFF → core_of regs' psw' cex' ≡ pulled (core_of regs psw cex) m → depth' ≡ shallower depth
      → Took k (running regs psw cex 0 count m) depth added log (running regs' psw' cex' 0 (count + 1) m) depth' added log
  unfolding perform commit log_bytes
  took-leave at e d =
      took-planned k (running regs psw cex 0 count m) (running regs' psw' cex' 0 (count + 1) m) depth depth' added added log log
      (planned (core_of regs psw cex) act.Pull) (plan-leaves regs m psw cex count woken at)
      (λ i. record { core = e i; lines = 0; halted = false; count = count + 1; mem = m }) d (none_more added) refl fits

  -- SVC, as the code takes it: v is its vector, t past its word
  pub took-trap :
      (m' : List ℕ) (w v t q o : ℕ) → w ≡ word_at m (get_or regs 7 0) → w / 16 ≡ 0x4DA → get_or regs 7 0 % 2 ≡ 0 → cex % 64 ≡ 0
      → v ≡ w % 16 → q ≡ priority m v → o ≡ current psw → o < q → t ≡ wrap (get_or regs 7 0 + 2)
      → core_of regs' psw' cex' ≡ entered (core_of (set regs 7 t) psw cex) m v false → m'
      ≡ commit (pushes (core_of (set regs 7 t) psw cex)) m
      → depth' ≡ deeper depth
      → Took k (running regs psw cex 0 count m) depth added log (running regs' psw' cex' 0 (count + 1) m') depth' added log
  unfolding perform log_bytes
  took-trap m' w v t q o ew h even shut ev eq eo low et e em d =
      let x = core_of (set regs 7 (wrap (get_or regs 7 0 + 2))) psw cex in
      let above : o < priority m (w % 16) = subst (λ (n : ℕ). o < n) (eq ∙ ap (priority m) ev) low in
      let higher : current psw < priority m (w % 16) = subst (λ (n : ℕ). n < priority m (w % 16)) eo above in
      let e' : core_of regs' psw' cex' ≡ entered x m (w % 16) false =
      e ∙ (λ j. entered (core_of (set regs 7 (et j)) psw cex) m (ev j) false) in
      let em' : m' ≡ commit (pushes x) m = em ∙ ap (λ (n : ℕ). commit (pushes (core_of (set regs 7 n) psw cex)) m) et in
      took-planned k (running regs psw cex 0 count m) (running regs' psw' cex' 0 (count + 1) m') depth depth' added added log log
      (planned x (act.Trap (w % 16))) (plan-traps regs m psw cex count w woken even shut ew h higher)
      (λ i. record { core = e' i; lines = 0; halted = false; count = count + 1; mem = em' i }) d (none_more added) refl fits
