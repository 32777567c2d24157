-- What the code of a plan leaves, over plain cores, lists and numbers: each law takes what the code's calls give, in
-- their order. l is the lines, m the memory. Assumes nothing.
use Rattle.std.proofs.Common.{
  ◌≡◌,
  ℕ,
  ◌+◌,
  ◌*◌,
  ◌/◌,
  ◌%◌,
  ◌<◌,
  ◌≤◌,
  Bool,
  true,
  false,
  cond,
  not,
  ◌&&◌,
  eqb,
  ltb,
  List,
  get_or,
  set,
  sym,
  refl,
  ap,
  ◌∙◌,
  subst,
  arith,
  set-set,
  le-ltb,
  lt-ltb,
}
use lib.Seq.{set-get_or}
use Rattle.word.specs.Psw.{asleep?, faulted?, current, previous}
use Rattle.isa.specs.declared.Instr.{Instr}
use Rattle.isa.specs.declared.Instr.TheVariants as i
use Rattle.isa.specs.Fields.{Fields}
use Rattle.isa.specs.Decode.{decode_of}
use Rattle.isa.proofs.Laws.{decode-fields}
use Rattle.machine.specs.declared.ByteAddr.{ByteAddr}
use Rattle.machine.specs.declared.Access.{Access}
use Rattle.machine.specs.declared.Access.TheVariants as asks
use Rattle.machine.specs.declared.Act.TheVariants as act
use Rattle.machine.specs.State.{Core, State, core_of, pc, wrap}
use Rattle.machine.specs.Memory.{byte_at, word_at, first_byte}
use Rattle.machine.specs.Cex.{lowered}
use Rattle.machine.specs.Entry.{priority, best}
use Rattle.machine.specs.Effect.{Effect, effect_of}
use Rattle.machine.specs.Step as step
use Rattle.machine.specs.Step.{Plan, Interrupt, planned, chosen, returns?, interrupt_of, advanced, faulting, allowed, odd?, granted}
use Rattle.machine.specs.Step.{executed, instruction_of, plan_of}
use Rattle.machine_laws.specs.Bounds.{Quits}
use Rattle.machine_laws.proofs.Cases.{bool_cases}
use Rattle.machine_laws.proofs.Effects.{effect-fault-core}
use Rattle.machine_laws.proofs.Plans.{plan-live, instruction-cases, granted-cases}
use Rattle.step_plan.specs.Planned.{Asked, Within}
use Rattle.entry.specs.Lines.{line_above}
use Rattle.entry.proofs.Lines.{line-is, line-isnt}
use Rattle.step_plan.specs.Interrupt.{leaving}

-- ---- faults and traps

module _ (b c : Core) (v : ℕ) {f : Bool} (ef : f ≡ faulted? b.psw) where
  pub fault-halts : f ≡ true → planned b act.Halt ≡ faulting b c v
  fault-halts h = ap (λ (x : Bool). cond x (planned b act.Halt) (planned c (act.Fault v))) (sym h ∙ ef)

  pub fault-enters : f ≡ false → planned c (act.Fault v) ≡ faulting b c v
  fault-enters h = ap (λ (x : Bool). cond x (planned b act.Halt) (planned c (act.Fault v))) (sym h ∙ ef)

-- the core from before the instruction, its PC put back
restored :
    (b x : Core) (p q r : ℕ) → b.psw ≡ p → b.cex ≡ q → get_or b.regs 7 0 ≡ r → x ≡ advanced b → core_of (set x.regs 7 r) p q ≡ b
unfolding advanced
restored b x p q r ep eq er ex =
    let g : set x.regs 7 r ≡ b.regs =
    ap (λ (c : Core). set c.regs 7 r) ex ∙ set-set b.regs 7 (wrap (pc b + 2)) r
    ∙ ap (set b.regs 7) (sym er) ∙ set-get_or b.regs 7 0 in
    λ i. core_of (g i) (sym ep i) (sym eq i)

advanced-of : (b x : Core) (p : ℕ) → b.psw ≡ p → x ≡ advanced b → core_of x.regs p x.cex ≡ advanced b
unfolding advanced
advanced-of b x p ep ex = (λ i. core_of (ex i).regs (sym ep i) (ex i).cex)

-- ---- what is allowed

module _ (b x : Core) (a : Access) (m : List ℕ) where
  pub allowed-nothing : a ≡ asks.Nothing → planned x act.Plain ≡ allowed b x a m
  allowed-nothing e = ap (λ (y : Access). allowed b x y m) (sym e)

  pub allowed-load : (byte : Bool) (at : ByteAddr) (d : ℕ) → a ≡ asks.Load byte at d → planned x (act.Loads byte at d) ≡ allowed b x a m
  allowed-load byte at d e = ap (λ (y : Access). allowed b x y m) (sym e)

  pub allowed-store : (byte : Bool) (at : ByteAddr) (v : ℕ) → a ≡ asks.Store byte at v → planned x (act.Stores byte at v) ≡ allowed b x a m
  allowed-store byte at v e = ap (λ (y : Access). allowed b x y m) (sym e)

  module _ (p q r : ℕ) (ep : b.psw ≡ p) (eq : b.cex ≡ q) (er : get_or b.regs 7 0 ≡ r) (quits : Quits a → x ≡ advanced b) where
    pub allowed-fault :
        {t : Plan} (v : ℕ) → a ≡ asks.Fault v →
        t ≡ faulting (core_of (set x.regs 7 r) p q) (core_of x.regs p x.cex) v → t ≡ allowed b x a m
    allowed-fault v e f =
        let ex : x ≡ advanced b = quits (subst Quits (sym e) tt) in
        f ∙ (λ i. faulting (restored b x p q r ep eq er ex i) (advanced-of b x p ep ex i) v)
        ∙ ap (λ (y : Access). allowed b x y m) (sym e)

    module _ (v c k : ℕ) (e : a ≡ asks.Trap v) (ec : c ≡ current p) (ek : k ≡ priority m v) where
      -- the test of SVC, as the definition has it
      tested : (o : Bool) → ltb c k ≡ o → ltb (current b.psw) (priority m v) ≡ o
      tested o h = (λ i. ltb (current (ep i)) (sym ek i)) ∙ ap (λ (y : ℕ). ltb y k) (sym ec) ∙ h

      pub allowed-trap : c < k → planned x (act.Trap v) ≡ allowed b x a m
      allowed-trap h =
          ap (λ (y : Bool). cond y (planned x (act.Trap v)) (faulting b (advanced b) 10)) (sym (tested true (lt-ltb _ _ h)))
          ∙ ap (λ (y : Access). allowed b x y m) (sym e)

      pub allowed-low :
          {t : Plan} → k ≤ c → t ≡ faulting (core_of (set x.regs 7 r) p q) (core_of x.regs p x.cex) 10 → t ≡ allowed b x a m
      allowed-low h w =
          let ex : x ≡ advanced b = quits (subst Quits (sym e) tt) in
          w ∙ (λ i. faulting (restored b x p q r ep eq er ex i) (advanced-of b x p ep ex i) 10)
          ∙ ap (λ (y : Bool). cond y (planned x (act.Trap v)) (faulting b (advanced b) 10)) (sym (tested false (le-ltb _ _ h)))
          ∙ ap (λ (y : Access). allowed b x y m) (sym e)

-- ---- an instruction

-- the effect of the word that PC names, PC past it and its count lowered
pub fetched :
    (regs m : List ℕ) (psw cex k w q y : ℕ) (e : Effect) → k ≡ get_or regs 7 0 / 2 →
    w ≡ byte_at m (first_byte k) + 256 * byte_at m (first_byte k + 1) → q ≡ wrap (get_or regs 7 0 + 2) → y ≡ lowered cex →
    e ≡ effect_of (core_of (set regs 7 q) psw y) (decode_of w) →
    e ≡ effect_of (advanced (core_of regs psw cex)) (decode_of (word_at m (get_or regs 7 0)))
unfolding advanced
fetched regs m psw cex k w q y e ek ew eq ey ee =
    let w' : w ≡ word_at m (get_or regs 7 0) = ew ∙ ap (λ (x : ℕ). byte_at m (first_byte x) + 256 * byte_at m (first_byte x + 1)) ek in
    ee ∙ (λ j. effect_of (core_of (set regs 7 (eq j)) psw (ey j)) (ap decode_of w' j))

pub fetched-quits : (c : Core) (n : Instr) (e : Effect) → e ≡ effect_of c n → Quits e.access → e.core ≡ c
fetched-quits c n e h q = ap (λ (x : Effect). x.core) h ∙ effect-fault-core c n (subst (λ (x : Effect). Quits x.access) h q)

-- both counts of a CEX state at once
pub no_true : (x : ℕ) → x % 64 ≡ 0 → x / 8 % 8 ≡ 0
no_true x h = omega arith

pub no_false : (x : ℕ) → x % 64 ≡ 0 → x % 8 ≡ 0
no_false x h = omega arith

pub some-false : (x : ℕ) → (x % 64 ≡ 0 → ⊥) → x / 8 % 8 ≡ 0 → x % 8 ≡ 0 → ⊥
some-false x h t f = h (omega arith)

pub skip-law :
    (regs : List ℕ) (psw cex q y : ℕ) → q ≡ wrap (get_or regs 7 0 + 2) → y ≡ lowered cex →
    planned (core_of (set regs 7 q) psw y) act.Skip ≡ planned (advanced (core_of regs psw cex)) act.Skip
unfolding advanced
skip-law regs psw cex q y e f = λ i. planned (core_of (set regs 7 (e i)) psw (f i)) act.Skip

-- an odd word access: registers, PSW and CEX state as `advanced` leaves them, or all from before
pub odd-law :
    (regs m : List ℕ) (psw cex q y : ℕ) (e : Effect) {t : Plan} → q ≡ wrap (get_or regs 7 0 + 2) → y ≡ lowered cex → odd? e.access ≡ true
    → t ≡ faulting (core_of (set (set regs 7 q) 7 (get_or regs 7 0)) psw cex) (core_of (set regs 7 q) psw y) 9
    → t ≡ executed (core_of regs psw cex) e m
unfolding advanced granted
odd-law regs m psw cex q y e eq ey o f =
    let b = core_of regs psw cex in
    let back : set (set regs 7 q) 7 (get_or regs 7 0) ≡ regs = set-set regs 7 q (get_or regs 7 0) ∙ set-get_or regs 7 0 in
    f
    ∙ (λ i. faulting (core_of (back i) psw cex) (core_of (set regs 7 (eq i)) psw (ey i)) 9)
    ∙ ap (λ (x : Bool). cond x (faulting b (advanced b) 9) (allowed b e.core e.access m)) (sym o)

-- ---- a return, and points 2 to 7

module _ (c : Core) (l d q : ℕ) (m : List ℕ) (eq : q ≡ previous c.psw) (ed : d ≡ line_above m l q) (p : Plan) where
  e : d ≡ line_above m l (previous c.psw)
  e = ed ∙ ap (line_above m l) eq

  pub leave-chains : d < 8 → planned c (act.Chain d) ≡ chosen (leaving c l m) c p
  leave-chains h =
      let k = line-is m l (previous c.psw) d e h in
      ap (λ (y : ℕ). planned c (act.Chain y)) (sym k.1)
      ∙ ap (λ (b : Bool). chosen (cond b (step.chains (best l m)) step.pulls) c p) (sym k.0)

  pub leave-pulls : 8 ≤ d → planned c act.Pull ≡ chosen (leaving c l m) c p
  leave-pulls h =
      ap (λ (b : Bool). chosen (cond b (step.chains (best l m)) step.pulls) c p) (sym (line-isnt m l (previous c.psw) d e h))

module _ (u : State) (live : u.halted ≡ false) {t : Plan} where
  due : (j : Interrupt) → interrupt_of u.core u.lines u.mem ≡ j
      → t ≡ chosen j u.core (instruction_of u.core u.mem) → t ≡ plan_of u
  due j e f =
      f
      ∙ ap (λ (y : Interrupt). chosen y u.core (instruction_of u.core u.mem)) (sym e)
      ∙ sym (plan-live u live)

  pub due-leaves :
      returns? u.core ≡ true → ((p : Plan) → t ≡ chosen (leaving u.core u.lines u.mem) u.core p) → t ≡ plan_of u
  unfolding interrupt_of
  due-leaves r f = due (leaving u.core u.lines u.mem) (rw r refl) (f (instruction_of u.core u.mem))

  pub due-accepts :
      (d q : ℕ) → returns? u.core ≡ false → q ≡ current u.core.psw → d ≡ line_above u.mem u.lines q → d < 8
      → t ≡ planned u.core (act.Accept d) → t ≡ plan_of u
  unfolding interrupt_of
  due-accepts d q r eq e h f =
      let k = line-is u.mem u.lines (current u.core.psw) d (e ∙ ap (line_above u.mem u.lines) eq) h in
      due (step.accepts d) (rw (r, k.0) (ap step.accepts k.1)) f

  pub due-runs :
      (d q : ℕ) → returns? u.core ≡ false → q ≡ current u.core.psw → d ≡ line_above u.mem u.lines q → 8 ≤ d
      → t ≡ instruction_of u.core u.mem → t ≡ plan_of u
  unfolding interrupt_of
  due-runs d q r eq e h f =
      let k = line-isnt u.mem u.lines (current u.core.psw) d (e ∙ ap (line_above u.mem u.lines) eq) h in
      due step.nothing (rw (r, k) refl) f

-- the test of a return
pub returns_is : (c : Core) {a b : Bool} → a ≡ asleep? c.psw → not a && eqb (pc c) 0xFFFF ≡ b → returns? c ≡ b
returns_is c ea h = ap (λ (x : Bool). not x && eqb (pc c) 0xFFFF) (sym ea) ∙ h

-- ---- the numbers of an act

pub effect-within : (c : Core) (n : Instr) → Fields n → Asked (effect_of c n).access
unfolding effect_of
effect-within c i.Illegal f = omega arith
effect-within c (i.Bl off) f = tt
effect-within c (i.Branch n off) f = tt
effect-within c (i.Alu op rc wb src dst) f = tt
effect-within c (i.Mov wb src dst) f = tt
effect-within c (i.Swap src dst _) f = tt
effect-within c (i.Unary op wb dst) f = tt
effect-within c (i.Swpb dst _) f = tt
effect-within c (i.Sxt dst _) f = tt
effect-within c (i.SetPri level) f = bool_cases (ltb (current c.psw) level) (λ e. rw e (omega arith)) (λ e. rw e tt)
effect-within c (i.Svc v) f = f
effect-within c (i.SetCc g) f = tt
effect-within c (i.ClrCc g) f = tt
effect-within c (i.Cex n t g) f = tt
effect-within c (i.Ld prpo dec inc wb src dst) f = f.5
effect-within c (i.St prpo dec inc wb src dst) f = tt
effect-within c (i.MovImm op b dst) f = tt
effect-within c (i.Ldr off wb src dst) f = f.3
effect-within c (i.Str off wb src dst) f = tt

faulting-within : (b c : Core) (v : ℕ) → v < 16 → Within (faulting b c v).act
faulting-within b c v h = bool_cases (faulted? b.psw) (λ e. rw e tt) (λ e. rw e h)

allowed-within : (b x : Core) (a : Access) (m : List ℕ) → Asked a → Within (allowed b x a m).act
allowed-within b x asks.Nothing m h = tt
allowed-within b x (asks.Load byte at d) m h = h
allowed-within b x (asks.Store byte at v) m h = tt
allowed-within b x (asks.Fault v) m h = faulting-within b (advanced b) v h
allowed-within b x (asks.Trap v) m h =
    bool_cases (ltb (current b.psw) (priority m v)) (λ e. rw e h) (λ e. rw e (faulting-within b (advanced b) 10 (omega arith)))

granted-within : (b x : Core) (a : Access) (m : List ℕ) → Asked a → Within (granted b x a m).act
granted-within b x a m h =
    granted-cases b x a m (λ (p : Plan). Within p.act)
    (λ q. faulting-within b (advanced b) 9 (omega arith)) (λ q. allowed-within b x a m h)

pub instruction-within : (c : Core) (m : List ℕ) → Within (instruction_of c m).act
instruction-within c m =
    instruction-cases c m (λ (p : Plan). Within p.act)
    (λ e. tt) (λ e f. faulting-within c c 9 (omega arith)) (λ e f g. tt)
    (λ e f g. granted-within c _ _ m (effect-within _ _ (decode-fields _)))
