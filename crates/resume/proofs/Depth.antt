-- The priorities of open frames rise, and so at most 7 - p frames are open together: each frame's entry raised the current
-- priority above that of the PSW that it saved, and a chained entry above the previous priority, which is that of the
-- saved PSW. Assumes nothing.
use Prim.Native.Nat.{ℕ, zero, suc, ◌+◌, ◌*◌, ◌-◌, ◌/◌, ◌%◌, ◌<◌, ◌≤◌}
use mathlib.Core.Bool.{Bool, true, false, cond, ◌&&◌, ◌||◌, true≢false}
use mathlib.Core.List.{List, [], ◌∷◌}
use native.Mathlib.Nat.{add-zero, add-suc}
use mathlib.Core.Path.{◌≡◌, refl, sym, ap, subst, ◌∙◌}
use native.Mathlib.Omega.{arith}
use lib.Dec.{ltb, lit<}
use lib.ListN.{length}
use Rattle.word.specs.Width.{bit}
use Rattle.word.specs.Psw.{faulted?, current, previous}
use Rattle.word.proofs.Laws.{bit_le}
use Rattle.isa.specs.declared.Instr.{Instr}
use Rattle.isa.specs.declared.Instr.TheVariants as i
use Rattle.isa.specs.Decode.{decode_of}
use Rattle.isa.specs.Fields.{Fields}
use Rattle.isa.proofs.Laws.{decode-fields}
use Rattle.machine.specs.declared.Access.{Access}
use Rattle.machine.specs.declared.Access.TheVariants.{Nothing, Load, Store, Fault, Trap}
use Rattle.machine.specs.State.{Core, State, sp, pc, wrap}
use Rattle.machine.specs.Memory.{word_at, commit}
use Rattle.machine.specs.Record.{state_in}
use Rattle.machine.specs.Events.{Event, events_of}
use Rattle.machine.specs.Entry.{vector_psw, priority, best, above, vectored, entered_psw, pulled, pulled_psw}
use Rattle.machine.specs.Effect.{effect_of}
use Rattle.machine.specs.declared.Act.{Act}
use Rattle.machine.specs.Step.{Interrupt, pulls, chains, accepts, nothing, interrupt_of, returns?, advanced, allowed, granted}
use Rattle.machine.specs.Step.{instruction_of, plan_of, perform, outcome_of, finished}
use Rattle.machine.specs.declared.Act.TheVariants as acts
use Rattle.machine_laws.specs.Bounds.{Each, Tidy, EventFits}
use Rattle.machine_laws.specs.Passed.{Passed}
use Rattle.machine_laws.proofs.Cases.{bool_cases, lt_of, ge-of, and_right}
use Rattle.machine_laws.proofs.Effects.{SamePriorities, effect-priorities}
use Rattle.machine_laws.proofs.Plans.{instruction-cases, granted-cases, plan-cases, plan-halted}
use Rattle.machine_laws.proofs.Runs.{step-halted, step-live, run-zero, run_step}
use Rattle.machine_laws.proofs.Steps.{deliver-tidy, deliver-core, deliver-halted, run-tidy}
use Rattle.machine_laws.proofs.Records.{passed, start-tidy, events-fit}
use Rattle.resume.specs.Frames.{Frame, frame, Calm, svc?, none?, frames_after, after, due, act, frames}
use Rattle.resume.specs.Depth.{set_pri?, executes?, sets_priority?, lesser, lowest, Shallow, DepthPremises}
use Rattle.resume.specs.Depth.{levels_after, newest, Rising, levels, PrioritiesRise}
use Rattle.resume.proofs.Frame.{Saved, saves, found_word}
use Rattle.resume.proofs.Steady.{Faultless, Steady, calm-faultless, faulting-faults, trap-granted, instruction-steady, plan-core}
use Rattle.resume.proofs.Steady.{plan-moves}
use Rattle.resume.proofs.Devices.{Devices, devices-chained, frames-devices}

-- ---- priorities of the words that entries and returns make

entered-sum : (x y z q : ℕ) → x < 8 → y < 16 → z ≤ 1 → (x + y * 16 + z * 256 + q * 8192) / 32 % 8 ≡ y / 2 % 8
entered-sum x y z q hx hy hz =
    let a : (x + y * 16 + z * 256 + q * 8192) / 32 ≡ y / 2 + z * 8 + q * 256 = omega arith in
    rw a (omega arith)

entered-top : (x y z q : ℕ) → x < 8 → y < 16 → z ≤ 1 → q < 8 → (x + y * 16 + z * 256 + q * 8192) / 8192 % 8 ≡ q
entered-top x y z q hx hy hz hq =
    let a : (x + y * 16 + z * 256 + q * 8192) / 8192 ≡ q = omega arith in
    rw a (omega arith)

entered-priorities : (p q : ℕ) (f : Bool) → q < 8 → (current (entered_psw p q f) ≡ current p) × (previous (entered_psw p q f) ≡ q)
unfolding entered_psw
entered-priorities p q f h =
    let b : p / 16 % 16 / 2 % 8 ≡ p / 32 % 8 = omega arith in (
      entered-sum (p % 8) (p / 16 % 16) (bit f) q (omega arith) (omega arith) (bit_le f) ∙ b,
      entered-top (p % 8) (p / 16 % 16) (bit f) q (omega arith) (omega arith) (bit_le f) h,
    )

pulled-sum : (x y z : ℕ) → x < 8 → (x + y * 16 + z * 8192) / 32 % 8 ≡ y / 2 % 8
pulled-sum x y z h =
    let a : (x + y * 16 + z * 8192) / 32 ≡ y / 2 + z * 256 = omega arith in
    rw a (omega arith)

pulled-top : (x y z : ℕ) → x < 8 → y < 32 → z < 8 → (x + y * 16 + z * 8192) / 8192 % 8 ≡ z
pulled-top x y z h k l =
    let a : (x + y * 16 + z * 8192) / 8192 ≡ z = omega arith in
    rw a (omega arith)

pulled-priorities : (p : ℕ) → SamePriorities (pulled_psw p) p
pulled-priorities p =
    let b : p / 16 % 32 / 2 % 8 ≡ p / 32 % 8 = omega arith in (
      pulled-sum (p % 8) (p / 16 % 32) (previous p) (omega arith) ∙ b,
      pulled-top (p % 8) (p / 16 % 32) (previous p) (omega arith) (omega arith) (omega arith),
    )

-- ---- what an acceptance and a chained entry have shown

Above : (p q : ℕ) (m : List ℕ) → Interrupt → Type 0
Above p q m pulls = Unit {0}
Above p q m (chains d) = q < priority m d
Above p q m (accepts d) = p < priority m d
Above p q m nothing = Unit {0}

interrupt-above : (c : Core) (l : ℕ) (m : List ℕ) → Above (current c.psw) (previous c.psw) m (interrupt_of c l m)
unfolding interrupt_of Above
interrupt-above c l m =
    let d = best l m in
    bool_cases (returns? c)
    (λ q. bool_cases (above m d (previous c.psw)) (λ r. rw (q, r) (lt_of (and_right (ltb d 8) _ r))) (λ r. rw (q, r) tt))
    (λ q. bool_cases (above m d (current c.psw)) (λ r. rw (q, r) (lt_of (and_right (ltb d 8) _ r))) (λ r. rw (q, r) tt))

-- the same of the act
abbrev Higher : (p q : ℕ) (m : List ℕ) → Act → Type 0
Higher p q m acts.Stopped = Unit {0}
Higher p q m acts.Pull = Unit {0}
Higher p q m (acts.Chain d) = q < priority m d
Higher p q m (acts.Accept d) = p < priority m d
Higher p q m acts.Sleep = Unit {0}
Higher p q m (acts.Fault v) = Unit {0}
Higher p q m acts.Halt = Unit {0}
Higher p q m acts.Skip = Unit {0}
Higher p q m (acts.Trap v) = Unit {0}
Higher p q m acts.Plain = Unit {0}
Higher p q m (acts.Loads byte a d) = Unit {0}
Higher p q m (acts.Stores byte a v) = Unit {0}

steady-higher : (p q : ℕ) (m : List ℕ) (a : Act) → Steady a → Higher p q m a
steady-higher p q m acts.Stopped s = tt
steady-higher p q m acts.Pull s = tt
steady-higher p q m (acts.Chain d) s = absurd s
steady-higher p q m (acts.Accept d) s = absurd s
steady-higher p q m acts.Sleep s = tt
steady-higher p q m (acts.Fault v) s = tt
steady-higher p q m acts.Halt s = tt
steady-higher p q m acts.Skip s = tt
steady-higher p q m (acts.Trap v) s = tt
steady-higher p q m acts.Plain s = tt
steady-higher p q m (acts.Loads byte a d) s = tt
steady-higher p q m (acts.Stores byte a v) s = tt

plan-higher : (s : State) → Faultless (plan_of s).act
    → Higher (current s.core.psw) (previous s.core.psw) s.mem (plan_of s).act
unfolding Above
plan-higher s =
    let p = current s.core.psw in
    let q = previous s.core.psw in
    let u = interrupt-above s.core s.lines s.mem in
    plan-cases s (λ x. Faultless x.act → Higher p q s.mem x.act)
    (λ h c. tt) (λ h e c. tt) (λ d h e c. subst (Above p q s.mem) e u) (λ d h e c. subst (Above p q s.mem) e u)
    (λ h e c. steady-higher p q s.mem (instruction_of s.core s.mem).act (instruction-steady s.core s.mem c))

-- ---- an instruction that is no SETPRI keeps both priorities

not_set : (n : Instr) → set_pri? n ≡ false → (level : ℕ) → n ≡ i.SetPri level → ⊥
not_set n h level e = true≢false (sym (ap set_pri? e) ∙ h)

module _ (c x : Core) (m : List ℕ) (n : Instr) (e : set_pri? n ≡ false → SamePriorities x.psw c.psw) where
  allowed-priorities : (a : Access) → Faultless (allowed c x a m).act → svc? (allowed c x a m).act ≡ false
      → executes? (allowed c x a m).act && set_pri? n ≡ false
      → SamePriorities (allowed c x a m).core.psw c.psw
  unfolding granted
  allowed-priorities Nothing h u q = e q
  allowed-priorities (Load byte a d) h u q = e q
  allowed-priorities (Store byte a v) h u q = e q
  allowed-priorities (Fault v) h u q = absurd (faulting-faults c (advanced c) v h)
  allowed-priorities (Trap v) h u q = absurd (true≢false (sym (ap svc? (trap-granted c x m v h)) ∙ u))

  granted-priorities : (a : Access) → Faultless (granted c x a m).act → svc? (granted c x a m).act ≡ false
      → executes? (granted c x a m).act && set_pri? n ≡ false
      → SamePriorities (granted c x a m).core.psw c.psw
  granted-priorities a =
      granted-cases c x a m
      (λ p. Faultless p.act → svc? p.act ≡ false → executes? p.act && set_pri? n ≡ false → SamePriorities p.core.psw c.psw)
      (λ q h. absurd (faulting-faults c (advanced c) 9 h)) (λ q. allowed-priorities a)

advanced-psw : (c : Core) → (advanced c).psw ≡ c.psw
unfolding advanced
advanced-psw c = refl

executed-priorities : (c : Core) (n : Instr) → Fields n → set_pri? n ≡ false → SamePriorities (effect_of (advanced c) n).core.psw c.psw
unfolding advanced
executed-priorities c n f h = effect-priorities (advanced c) n f (not_set n h)

instruction-priorities : (c : Core) (m : List ℕ) → Faultless (instruction_of c m).act → svc? (instruction_of c m).act ≡ false
    → executes? (instruction_of c m).act && set_pri? (decode_of (word_at m (pc c))) ≡ false
    → SamePriorities (instruction_of c m).core.psw c.psw
unfolding advanced
instruction-priorities c m =
    let n = decode_of (word_at m (pc c)) in
    let x = effect_of (advanced c) n in
    instruction-cases c m
    (λ p. Faultless p.act → svc? p.act ≡ false → executes? p.act && set_pri? n ≡ false → SamePriorities p.core.psw c.psw)
    (λ q h u e. (refl, refl)) (λ q r h u e. absurd (faulting-faults c c 9 h)) (λ q r o h u e. (refl, refl))
    (λ q r o h u e. granted-priorities c x.core m n (executed-priorities c n (decode-fields (word_at m (pc c)))) x.access h u e)

plan-priorities : (s : State) → Faultless (plan_of s).act → svc? (plan_of s).act ≡ false → sets_priority? s ≡ false
    → Steady (plan_of s).act → SamePriorities (plan_of s).core.psw s.core.psw
plan-priorities s =
    let b = set_pri? (decode_of (word_at s.mem (pc s.core))) in
    plan-cases s
    (λ p. Faultless p.act → svc? p.act ≡ false → executes? p.act && b ≡ false → Steady p.act
    → SamePriorities p.core.psw s.core.psw)
    (λ h c u e st. absurd st) (λ h q c u e st. absurd st) (λ d h q c u e st. absurd st) (λ d h q c u e st. absurd st)
    (λ h q c u e st. instruction-priorities s.core s.mem c u e)

perform-steady : (a : Act) → Steady a → svc? a ≡ false → (c : Core) (l : ℕ) (m : List ℕ)
    → (perform a c l m).core.psw ≡ c.psw
unfolding perform
perform-steady acts.Stopped s u c l m = absurd s
perform-steady acts.Pull s u c l m = absurd s
perform-steady (acts.Chain d) s u c l m = absurd s
perform-steady (acts.Accept d) s u c l m = absurd s
perform-steady acts.Sleep s u c l m = refl
perform-steady (acts.Fault v) s u c l m = absurd s
perform-steady acts.Halt s u c l m = absurd s
perform-steady acts.Skip s u c l m = refl
perform-steady (acts.Trap v) s u c l m = absurd (true≢false u)
perform-steady acts.Plain s u c l m = refl
perform-steady (acts.Loads byte a d) s u c l m = refl
perform-steady (acts.Stores byte a v) s u c l m = refl

-- ---- the invariant

-- the PSW that a frame holds
abbrev saved_psw : State → ℕ
saved_psw t = word_at t.mem (wrap (sp t.core + 2))

-- what is known of the PSW w and the frames open under it, of the priorities ls: the newest is the current one, above that
-- of the PSW that its frame holds, which is the previous one; and with no frame open the current one is at least p
abbrev Deep : (p w : ℕ) → List Frame → List ℕ → Type 0
Deep p w [] [] = p ≤ current w
Deep p w [] (l ∷ ls) = ⊥
Deep p w (f ∷ fs) [] = ⊥
Deep p w (f ∷ fs) (l ∷ ls) =
    (current w ≡ l) × (current (saved_psw f.held) < l) × (previous w ≡ current (saved_psw f.held))
    × (sp f.held.core < 65536) × Deep p (saved_psw f.held) fs ls

deep-same : (p w v : ℕ) (fs : List Frame) (ls : List ℕ) → SamePriorities w v → Deep p v fs ls → Deep p w fs ls
deep-same p w v [] [] e h = rw e.0 h
deep-same p w v [] (l ∷ ls) e h = h
deep-same p w v (f ∷ fs) [] e h = h
deep-same p w v (f ∷ fs) (l ∷ ls) e h = (e.0 ∙ h.0, h.1, e.1 ∙ h.2, h.3, h.4)

deep-bound : (p w : ℕ) (fs : List Frame) (ls : List ℕ) → Deep p w fs ls → p + length fs ≤ current w
deep-bound p w [] [] h = omega arith
deep-bound p w [] (l ∷ ls) h = absurd h
deep-bound p w (f ∷ fs) [] h = absurd h
deep-bound p w (f ∷ fs) (l ∷ ls) h =
    let b = deep-bound p (saved_psw f.held) fs ls h.4 in
    let e : current w ≡ l = h.0 in
    let up : current (saved_psw f.held) < l = h.1 in
    omega arith

deep-newest : (p w : ℕ) (fs : List Frame) (ls : List ℕ) → Deep p w fs ls → newest p ls ≤ current w
deep-newest p w [] [] h = h
deep-newest p w [] (l ∷ ls) h = absurd h
deep-newest p w (f ∷ fs) [] h = absurd h
deep-newest p w (f ∷ fs) (l ∷ ls) h = let e : current w ≡ l = h.0 in omega arith

deep-rising : (p w : ℕ) (fs : List Frame) (ls : List ℕ) → Deep p w fs ls → Rising p ls
deep-rising p w [] [] h = tt
deep-rising p w [] (l ∷ ls) h = absurd h
deep-rising p w (f ∷ fs) [] h = absurd h
deep-rising p w (f ∷ fs) (l ∷ ls) h =
    let b = deep-newest p (saved_psw f.held) fs ls h.4 in
    let up : current (saved_psw f.held) < l = h.1 in
    (omega arith, deep-rising p (saved_psw f.held) fs ls h.4)

-- p is at most each current priority held with no frame open
lesser-left : (a b : ℕ) → lesser a b ≤ a
lesser-left a b = bool_cases (ltb a b) (λ q. rw q (omega arith)) (λ q. let h : b ≤ a = ge-of q in rw q h)

lesser-right : (a b : ℕ) → lesser a b ≤ b
lesser-right a b = bool_cases (ltb a b) (λ q. let h : a < b = lt_of q in rw q (omega arith)) (λ q. rw q (omega arith))

module _ (ev : List Event) (s : State) where
  lowest-falls : (k : ℕ) → lowest ev s (suc k) ≤ lowest ev s k
  unfolding lowest
  lowest-falls k =
      bool_cases (none? (frames ev s (suc k)))
      (λ q. rw q (lesser-left (lowest ev s k) (current (after ev s (suc k)).core.psw))) (λ q. rw q (omega arith))

  lowest-later : (j k : ℕ) → lowest ev s (k + j) ≤ lowest ev s k
  lowest-later zero k = rw (add-zero k) (omega arith)
  lowest-later (suc j) k =
      let a = lowest-falls (k + j) in
      let b = lowest-later j k in
      rw (add-suc k j) (omega arith)

  lowest-here : (k : ℕ) → frames ev s k ≡ [] → lowest ev s k ≤ current (after ev s k).core.psw
  unfolding lowest
  lowest-here zero h = rw (ap (λ r. r.state) (run-zero ev s)) (omega arith)
  lowest-here (suc k) h =
      let w = current (after ev s (suc k)).core.psw in
      subst (λ b. cond b (lesser (lowest ev s k) w) (lowest ev s k) ≤ w) (sym (ap none? h)) (lesser-right (lowest ev s k) w)

  lowest-open : (n k : ℕ) → k ≤ n → frames ev s k ≡ [] → lowest ev s n ≤ current (after ev s k).core.psw
  lowest-open n k h o =
      let e : k + (n - k) ≡ n = omega arith in
      let a : lowest ev s n ≤ lowest ev s k = subst (λ x. lowest ev s x ≤ lowest ev s k) e (lowest-later (n - k) k) in
      let b = lowest-here k o in
      omega arith

module _ (memory r events : List ℕ) (n : ℕ) (P : DepthPremises memory r events n) where
  abbrev ev : List Event
  ev = events_of events

  abbrev s : State
  s = state_in r memory

  rules : Passed memory r events n
  rules = passed memory r events n P.accepted.accepted

  fit : Each EventFits ev
  fit = events-fit memory r events n rules P.accepted.event_bytes

  tidy : Tidy s
  tidy = start-tidy memory r events n rules P.accepted.memory_bytes P.accepted.record_bytes

  abbrev p : ℕ
  p = lowest ev s n

  after-tidy : (k : ℕ) → Tidy (after ev s k)
  after-tidy k = run-tidy ev s k fit tidy

  due-tidy : (k : ℕ) → Tidy (due ev s k)
  due-tidy k = deliver-tidy (after ev s k).count ev (after ev s k) fit (after-tidy k)

  due-core : (k : ℕ) → (due ev s k).core ≡ (after ev s k).core
  due-core k = deliver-core (after ev s k).count ev (after ev s k)

  module _ (k : ℕ) (below : k < n) (D : Deep p (after ev s k).core.psw (frames ev s k) (levels ev s k)) where
    deep-at : (fs : List Frame) (ls : List ℕ) → frames ev s k ≡ fs → levels ev s k ≡ ls → Deep p (due ev s k).core.psw fs ls
    deep-at fs ls o g =
        subst (λ c. Deep p c.psw fs ls) (sym (due-core k))
        (subst (Deep p (after ev s k).core.psw fs) g
        (subst (λ x. Deep p (after ev s k).core.psw x (levels ev s k)) o D))

    -- a machine that is halted stays as it is, with its frames
    halted_deep : (after ev s k).halted ≡ true → Deep p (after ev s (suc k)).core.psw (frames ev s (suc k)) (levels ev s (suc k))
    unfolding frames levels
    halted_deep h =
        let a : act ev s k ≡ acts.Stopped =
        ap (λ x. x.act) (plan-halted (due ev s k) (deliver-halted (after ev s k).count ev (after ev s k) ∙ h)) in
        let t : after ev s (suc k) ≡ after ev s k = run_step ev s k ∙ step-halted ev (after ev s k) h in
        subst (λ x. Deep p (after ev s (suc k)).core.psw (frames_after x (after ev s (suc k)) (frames ev s k))
        (levels_after x (due ev s k).mem (levels ev s k))) (sym a)
        (subst (λ x. Deep p x.core.psw (frames ev s k) (levels ev s k)) (sym t) D)

    module _ (live : (after ev s k).halted ≡ false) where
      due-live : (due ev s k).halted ≡ false
      due-live = deliver-halted (after ev s k).count ev (after ev s k) ∙ live

      next-is : after ev s (suc k) ≡ finished (due ev s k)
      next-is = run_step ev s k ∙ step-live ev (after ev s k) live

      onto : (fs : List Frame) (ls : List ℕ) → Deep p (finished (due ev s k)).core.psw fs ls
          → Deep p (after ev s (suc k)).core.psw fs ls
      onto fs ls h = subst (λ t. Deep p t.core.psw fs ls) (sym next-is) h

      faultless : Faultless (act ev s k)
      faultless = calm-faultless (act ev s k) (frames ev s k) (P.calm k below)

      outcome-is : (a : Act) → act ev s k ≡ a → (Steady a → ⊥)
          → outcome_of (due ev s k) ≡ perform a (due ev s k).core (due ev s k).lines (due ev s k).mem
      outcome-is a q u =
          let c = plan-core (due ev s k) faultless (λ h. u (subst Steady q h)) in
          λ i. perform (q i) (c i) (due ev s k).lines (due ev s k).mem

      higher : (a : Act) → act ev s k ≡ a → Higher (current (due ev s k).core.psw) (previous (due ev s k).core.psw) (due ev s k).mem a
      higher a q =
          subst (Higher (current (due ev s k).core.psw) (previous (due ev s k).core.psw) (due ev s k).mem) q
          (plan-higher (due ev s k) faultless)

      -- an entry
      accepted-deep : (d : ℕ) → act ev s k ≡ acts.Accept d → (fs : List Frame) (ls : List ℕ) → frames ev s k ≡ fs → levels ev s k ≡ ls
          → Deep p (finished (due ev s k)).core.psw (frame (after ev s (suc k)) false ∷ fs) (priority (due ev s k).mem d ∷ ls)
      unfolding perform vectored
      accepted-deep d q fs ls o g =
          let c = (due ev s k).core in
          let m = (due ev s k).mem in
          let out = outcome-is (acts.Accept d) q (λ h. h) in
          let w-is : (finished (due ev s k)).core.psw ≡ entered_psw (vector_psw m d) (current c.psw) (false || faulted? c.psw) =
          ap (λ x. x.core.psw) out in
          let pr = entered-priorities (vector_psw m d) (current c.psw) (false || faulted? c.psw) (omega arith) in
          let sv : Saved (after ev s (suc k)) c =
          saves c m (due-tidy k).core (due-tidy k).size d (current c.psw) (false || faulted? c.psw) (after ev s (suc k))
          (ap (λ t. t.core) next-is ∙ ap (λ x. x.core) out) (ap (λ t. t.mem) next-is ∙ ap (λ x. commit x.writes m) out) in
          let saved-is : saved_psw (after ev s (suc k)) ≡ c.psw =
          ap (λ x. word_at (after ev s (suc k)).mem (wrap (x + 2))) sv.stack ∙ sv.psw_word in
          let up : current c.psw < priority m d = higher (acts.Accept d) q in
          rw w-is (
            pr.0,
            subst (λ x. current x < priority m d) (sym saved-is) up,
            pr.1 ∙ sym (ap current saved-is),
            (after-tidy (suc k)).core.words 6,
            subst (λ w. Deep p w fs ls) (sym saved-is) (deep-at fs ls o g),
          )

      -- a chained entry
      chained-deep : (d : ℕ) → act ev s k ≡ acts.Chain d → (f : Frame) (fs : List Frame) (l : ℕ) (ls : List ℕ)
          → frames ev s k ≡ f ∷ fs → levels ev s k ≡ l ∷ ls
          → Deep p (finished (due ev s k)).core.psw (f ∷ fs) (priority (due ev s k).mem d ∷ ls)
      unfolding perform vectored
      chained-deep d q f fs l ls o g =
          let c = (due ev s k).core in
          let m = (due ev s k).mem in
          let w-is : (finished (due ev s k)).core.psw ≡ entered_psw (vector_psw m d) (previous c.psw) (faulted? c.psw) =
          ap (λ x. x.core.psw) (outcome-is (acts.Chain d) q (λ h. h)) in
          let pr = entered-priorities (vector_psw m d) (previous c.psw) (faulted? c.psw) (omega arith) in
          let old : Deep p c.psw (f ∷ fs) (l ∷ ls) = deep-at (f ∷ fs) (l ∷ ls) o g in
          let up : previous c.psw < priority m d = higher (acts.Chain d) q in
          rw w-is (pr.0, subst (λ x. x < priority m d) old.2 up, pr.1 ∙ old.2, old.3, old.4)

      -- a return that pulls
      pulled-deep : act ev s k ≡ acts.Pull → (f : Frame) (fs : List Frame) (l : ℕ) (ls : List ℕ)
          → frames ev s k ≡ f ∷ fs → levels ev s k ≡ l ∷ ls
          → Deep p (finished (due ev s k)).core.psw fs ls
      unfolding perform pulled
      pulled-deep q f fs l ls o g =
          let old : Deep p (due ev s k).core.psw (f ∷ fs) (l ∷ ls) = deep-at (f ∷ fs) (l ∷ ls) o g in
          let w-is : (finished (due ev s k)).core.psw ≡ pulled_psw (saved_psw f.held) =
          ap (λ x. x.core.psw) (outcome-is acts.Pull q (λ h. h))
          ∙ ap pulled_psw (found_word f.held (due ev s k) (P.found k f fs below q o) old.3 2 (omega arith) (lit< tt)) in
          rw w-is (deep-same p _ (saved_psw f.held) fs ls (pulled-priorities (saved_psw f.held)) old.4)

      -- an instruction in a handler
      steady-deep : Steady (act ev s k) → (f : Frame) (fs : List Frame) (ls : List ℕ) → frames ev s k ≡ f ∷ fs → levels ev s k ≡ ls
          → Deep p (finished (due ev s k)).core.psw (f ∷ fs) ls
      steady-deep st f fs ls o g =
          let no : sets_priority? (due ev s k) ≡ false = P.no_setpri k below (ap none? o) in
          let same : SamePriorities (finished (due ev s k)).core.psw (due ev s k).core.psw =
          rw (perform-steady (act ev s k) st (P.no_svc k below) (plan_of (due ev s k)).core (due ev s k).lines (due ev s k).mem)
          (plan-priorities (due ev s k) faultless (P.no_svc k below) no st) in
          deep-same p _ (due ev s k).core.psw (f ∷ fs) ls same (deep-at (f ∷ fs) ls o g)

      devices : (fs : List Frame) → frames ev s k ≡ fs → Devices fs
      devices fs o = subst Devices o (frames-devices ev s n P.no_svc k (omega arith))

      -- with no frame open, p is at most the current priority
      outside : (a : Act) → act ev s k ≡ a → frames ev s k ≡ [] → frames_after a (after ev s (suc k)) [] ≡ []
          → p ≤ current (after ev s (suc k)).core.psw
      unfolding frames
      outside a q o e =
          lowest-open ev s n (suc k) below
          (ap (λ x. frames_after x (after ev s (suc k)) (frames ev s k)) q ∙ ap (frames_after a (after ev s (suc k))) o ∙ e)

      steady-next : (a : Act) → act ev s k ≡ a → Steady a → frames_after a (after ev s (suc k)) [] ≡ []
          → (fs : List Frame) (ls : List ℕ) → frames ev s k ≡ fs → levels ev s k ≡ ls
          → Deep p (after ev s (suc k)).core.psw fs ls
      steady-next a q st e [] [] o g = outside a q o e
      steady-next a q st e [] (l ∷ ls) o g = absurd (deep-at [] (l ∷ ls) o g)
      steady-next a q st e (f ∷ fs) ls o g = onto (f ∷ fs) ls (steady-deep (subst Steady (sym q) st) f fs ls o g)

      -- the invariant after the step, by its act
      abbrev Next : Act → List Frame → List ℕ → Type 0
      Next a fs ls =
          Deep p (after ev s (suc k)).core.psw (frames_after a (after ev s (suc k)) fs) (levels_after a (due ev s k).mem ls)

      -- a chaining leaves the frames as they are: each is a device's
      chained-next : (d : ℕ) → act ev s k ≡ acts.Chain d → (f : Frame) (fs : List Frame) (l : ℕ) (ls : List ℕ)
          → frames ev s k ≡ f ∷ fs → levels ev s k ≡ l ∷ ls → Next (acts.Chain d) (f ∷ fs) (l ∷ ls)
      chained-next d q f fs l ls o g =
          let new = priority (due ev s k).mem d ∷ ls in
          subst (λ x. Deep p (after ev s (suc k)).core.psw x new)
          (sym (devices-chained (after ev s (suc k)) (f ∷ fs) (devices (f ∷ fs) o))) (onto (f ∷ fs) new (chained-deep d q f fs l ls o g))

      next : (a : Act) → act ev s k ≡ a → (fs : List Frame) (ls : List ℕ) → frames ev s k ≡ fs → levels ev s k ≡ ls → Calm a fs
          → Next a fs ls
      next acts.Stopped q fs ls o g c = absurd (plan-moves (due ev s k) due-live faultless q)
      next acts.Pull q [] ls o g c = absurd (true≢false c)
      next acts.Pull q (f ∷ fs) [] o g c = absurd (deep-at (f ∷ fs) [] o g)
      next acts.Pull q (f ∷ fs) (l ∷ ls) o g c = onto fs ls (pulled-deep q f fs l ls o g)
      next (acts.Chain d) q [] ls o g c = absurd (true≢false c)
      next (acts.Chain d) q (f ∷ fs) [] o g c = absurd (deep-at (f ∷ fs) [] o g)
      next (acts.Chain d) q (f ∷ fs) (l ∷ ls) o g c = chained-next d q f fs l ls o g
      next (acts.Accept d) q fs ls o g c =
          onto (frame (after ev s (suc k)) false ∷ fs) (priority (due ev s k).mem d ∷ ls) (accepted-deep d q fs ls o g)
      next acts.Sleep q fs ls o g c = steady-next acts.Sleep q tt refl fs ls o g
      next (acts.Fault v) q fs ls o g c = absurd c
      next acts.Halt q fs ls o g c = absurd c
      next acts.Skip q fs ls o g c = steady-next acts.Skip q tt refl fs ls o g
      next (acts.Trap v) q fs ls o g c = absurd (true≢false (sym (ap svc? q) ∙ P.no_svc k below))
      next acts.Plain q fs ls o g c = steady-next acts.Plain q tt refl fs ls o g
      next (acts.Loads byte a d) q fs ls o g c = steady-next (acts.Loads byte a d) q tt refl fs ls o g
      next (acts.Stores byte a v) q fs ls o g c = steady-next (acts.Stores byte a v) q tt refl fs ls o g

      live-deep : Deep p (after ev s (suc k)).core.psw (frames ev s (suc k)) (levels ev s (suc k))
      unfolding frames levels
      live-deep = next (act ev s k) refl (frames ev s k) (levels ev s k) refl refl (P.calm k below)

  deep : (k : ℕ) → k ≤ n → Deep p (after ev s k).core.psw (frames ev s k) (levels ev s k)
  unfolding frames levels
  deep zero h = lowest-open ev s n 0 h refl
  deep (suc k) h =
      let d = deep k (omega arith) in
      bool_cases (after ev s k).halted (halted_deep k h d) (live-deep k h d)

  pub priorities-rise : PrioritiesRise memory r events n
  priorities-rise k h = deep-rising p (after ev s k).core.psw (frames ev s k) (levels ev s k) (deep k h)

  pub depth : Shallow memory r events n
  depth k h =
      let b = deep-bound p (after ev s k).core.psw (frames ev s k) (levels ev s k) (deep k h) in
      let c : current (after ev s k).core.psw < 8 = omega arith in
      omega arith
