-- One step and a stretch of them. Where PC is even, SLP clear and no line above the priority, a step is its instruction's step or a
-- skipped one; asleep with no line above the priority, nothing changes but the count. Assumes nothing.
use Rattle.std.proofs.Common.{◌≡◌, ℕ, zero, suc, ◌+◌, ◌-◌, ◌*◌, ◌/◌, ◌%◌, ◌<◌, ◌≤◌, Bool, true, false, not, ltb, leb, ◌⊎◌, List, length}
use Rattle.std.proofs.Common.{get_or, set, sym, refl, ap, ◌∙◌, subst, inl, inr, ⊎_elim, mod-eq_of_lt, add-one, arith, length-set}
use Rattle.std.proofs.Common.{get_or-set_same, set-set, le-ltb, lt-ltb}
use mathlib.Core.Bool.{false≢true}
use lib.Seq.{set-get_or}
use Rattle.word.specs.Psw.{asleep?, current}
use Rattle.word.proofs.Laws.{bool_cases}
use Rattle.isa.specs.declared.Instr.{Instr}
use Rattle.isa.specs.declared.Instr.TheVariants as i
use Rattle.isa.specs.Decode.{decode_of}
use Rattle.machine.specs.declared.Access.{Access}
use Rattle.machine.specs.declared.Access.TheVariants as asks
use Rattle.machine.specs.declared.Act.TheVariants as act
use Rattle.machine.specs.State.{Core, State, core_of, wrap}
use Rattle.machine.specs.Memory.{byte_at, word_number, first_byte, word_at, commit}
use Rattle.machine.specs.Cex.{skips?, lowered, loaded_cex}
use Rattle.machine.specs.Events.{Event}
use Rattle.machine.specs.Devices.{deliver}
use Rattle.machine.specs.Entry.{best, above}
use Rattle.machine.specs.Effect.{effect_of}
use Rattle.machine.specs.Step as step
use Rattle.machine.specs.Step.{Plan, Interrupt, planned, chosen, interrupt_of, advanced, allowed, granted}
use Rattle.machine.specs.Step.{executed, instruction_of, plan_of, perform, finished}
use Rattle.machine.specs.Uneventful.{uneventful?, Uneventful}
use Rattle.machine_laws.proofs.Cases.{and_left, and_right, le_of, lt_of, not-lt}
use Rattle.machine_laws.proofs.Effects.{effect-eight}
use Rattle.machine_laws.proofs.Plans.{plan-live}
use Rattle.machine_laws.proofs.Runs.{run-zero, run-turn}
use Rattle.machine_laws.proofs.Uneventful.{uneventful-none, uneventful-one, uneventful-append}
use Rattle.machine_laws.proofs.Vectors.{BelowVectors, load_below, store_below, above_kept}
use Rattle.entry.proofs.Quiet.{none-waits, instruction-asleep, shut_none, plan-runs, plan-skips}
use Rattle.stretch_registers.specs.Effected.{left_alone}
use Rattle.stretch_memory.specs.Ordinary.{aligned?, inside?, ordinary?}
use Rattle.stretch_memory.specs.Served.{running, carried_out, Untouched, Served, Taken}
use Rattle.stretch_memory.proofs.Laws.{ordinary-granted}
use Rattle.stretch.specs.Stretch.{Undisturbed, Awake, NoneAbove, FreeOf, Passes, OneStep, Reaches, Goes, Stepped, Stepping, Walked}

-- ---- an ordinary access

allowed-uneventful : (c x : Core) (a : Access) (m : List ℕ) → ordinary? a ≡ true → uneventful? (allowed c x a m).act ≡ true
allowed-uneventful c x asks.Nothing m h = refl
allowed-uneventful c x (asks.Load byte a d) m h = refl
allowed-uneventful c x (asks.Store byte a v) m h =
    let k : 16 ≤ a.0 = le_of (and_left _ (ltb a.0 0xFFC0) (and_left (inside? a.0) (aligned? byte a.0) h)) in
    ap not (not-lt {m = a.0} {n = 16} k)
allowed-uneventful c x (asks.Fault v) m h = absurd (false≢true h)
allowed-uneventful c x (asks.Trap v) m h = absurd (false≢true h)

granted-uneventful : (c x : Core) (a : Access) (m : List ℕ) → ordinary? a ≡ true → uneventful? (granted c x a m).act ≡ true
granted-uneventful c x a m h =
    subst (λ (p : Plan). uneventful? p.act ≡ true) (ordinary-granted c x a m h) (allowed-uneventful c x a m h)

allowed-below :
    (c x : Core) (a : Access) (l : ℕ) (m : List ℕ) → ordinary? a ≡ true →
    BelowVectors (perform (allowed c x a m).act (allowed c x a m).core l m).writes
unfolding perform
allowed-below c x asks.Nothing l m h = tt
allowed-below c x (asks.Load byte a d) l m h = load_below byte m a.0
allowed-below c x (asks.Store byte a v) l m h =
    let k = and_left (inside? a.0) (aligned? byte a.0) h in
    store_below byte m a.0 v (le_of (and_left _ _ k)) (lt_of (and_right (leb 16 a.0) _ k))
allowed-below c x (asks.Fault v) l m h = absurd (false≢true h)
allowed-below c x (asks.Trap v) l m h = absurd (false≢true h)

granted-below :
    (c x : Core) (a : Access) (l : ℕ) (m : List ℕ) → ordinary? a ≡ true →
    BelowVectors (perform (granted c x a m).act (granted c x a m).core l m).writes
granted-below c x a l m h =
    subst (λ (p : Plan). BelowVectors (perform p.act p.core l m).writes) (ordinary-granted c x a m h) (allowed-below c x a l m h)

-- the registers stay eight
allowed-eight :
    (c x : Core) (a : Access) (l : ℕ) (m : List ℕ) → ordinary? a ≡ true →
    length (perform (allowed c x a m).act (allowed c x a m).core l m).core.regs ≡ length x.regs
unfolding perform
allowed-eight c x asks.Nothing l m h = refl
allowed-eight c x (asks.Load byte a d) l m h = length-set x.regs d _
allowed-eight c x (asks.Store byte a v) l m h = refl
allowed-eight c x (asks.Fault v) l m h = absurd (false≢true h)
allowed-eight c x (asks.Trap v) l m h = absurd (false≢true h)

granted-eight :
    (c x : Core) (a : Access) (l : ℕ) (m : List ℕ) → ordinary? a ≡ true →
    length (perform (granted c x a m).act (granted c x a m).core l m).core.regs ≡ length x.regs
granted-eight c x a l m h =
    subst (λ (p : Plan). length (perform p.act p.core l m).core.regs ≡ length x.regs) (ordinary-granted c x a m h)
    (allowed-eight c x a l m h)

-- ---- one step

-- a step that a block skips
pub skipped :
    (l : ℕ) (regs m : List ℕ) (psw cex v x : ℕ) → get_or regs 7 0 % 2 ≡ 0 → asleep? psw ≡ false → skips? cex ≡ true →
    v ≡ wrap (get_or regs 7 0 + 2) → x ≡ lowered cex → OneStep l regs psw cex m (set regs 7 v) psw x m
unfolding advanced perform commit
skipped l regs m psw cex v x even woken s ev ex q = (
  q,
  (λ n.
      (λ i. running (set regs 7 (ev i)) psw (ex i) l (n + 1) m)
      ∙ ap (λ (p : Plan). carried_out p l n m) (sym (plan-skips (running regs psw cex l n m) refl even woken q s))),
  (λ n. ap (λ (p : Plan). uneventful? p.act) (plan-skips (running regs psw cex l n m) refl even woken q s)),
)

-- a word served
module _ (free : Bool) (regs m regs₁ m₁ : List ℕ) (psw cex w x y psw₁ cex₁ r : ℕ) (even : get_or regs 7 0 % 2 ≡ 0)
    (woken : asleep? psw ≡ false) (ew : w ≡ word_at m (get_or regs 7 0)) (ex : x ≡ wrap (get_or regs 7 0 + 2))
    (s : skips? cex ≡ false) (ey : lowered cex ≡ y) (v : Served free (decode_of w) (set regs 7 x) psw y m regs₁ psw₁ cex₁ m₁ r) where
  abbrev before : Core
  before = core_of regs psw cex

  -- the plan, from what the code has fetched
  plan-is :
      (l n : ℕ) → NoneAbove m l (current psw) →
      plan_of (running regs psw cex l n m) ≡ executed before (effect_of (core_of (set regs 7 x) psw y) (decode_of w)) m
  unfolding advanced
  plan-is l n q =
      plan-runs (running regs psw cex l n m) refl even woken q s
      ∙ sym (λ j. executed before (effect_of (core_of (set regs 7 (ex j)) psw (sym ey j)) (decode_of (ew j))) m)

  -- the priority stays, or no line waits
  none_above : (l : ℕ) → FreeOf free l → NoneAbove m l (current psw) → NoneAbove m₁ l (current psw₁)
  none_above l none q =
      let e = effect_of (core_of (set regs 7 x) psw y) (decode_of w) in
      let p = executed before e m in
      let ws = (perform p.act p.core l m).writes in
      let f : m₁ ≡ commit ws m = ap (λ (s : State). s.mem) (v.1 before l 0) in
      bool_cases free
      (λ h. none-waits l (current psw₁) m₁ (none h)) (λ h.
      (λ i. above (f i) (best l (f i)) (v.3.1 h i))
      ∙ above_kept ws m l (current psw) (granted-below before e.core e.access l m v.6)
      ∙ q)

  pub step-served : (l : ℕ) → FreeOf free l → OneStep l regs psw cex m (set regs₁ 7 (r % 65536)) psw₁ cex₁ m₁
  step-served l none q =
      let e = effect_of (core_of (set regs 7 x) psw y) (decode_of w) in (
        none_above l none q,
        (λ n. v.1 before l n ∙ ap (λ (p : Plan). carried_out p l n m) (sym (plan-is l n q))),
        (λ n. ap (λ (p : Plan). uneventful? p.act) (plan-is l n q) ∙ granted-uneventful before e.core e.access m v.6),
      )

-- a word fetched by its word address n
pub fetched : (m : List ℕ) (a : ℕ) {n w : ℕ} → n ≡ word_number a → w ≡ byte_at m (first_byte n) + 256 * byte_at m (first_byte n + 1) →
    w ≡ word_at m a
fetched m a e h = h ∙ ap (λ (k : ℕ). byte_at m (first_byte k) + 256 * byte_at m (first_byte k + 1)) e

-- R7 is there after it
served-eight :
    (free : Bool) (regs m regs₁ m₁ : List ℕ) (psw w x y psw₁ cex₁ r : ℕ) →
    Served free (decode_of w) (set regs 7 x) psw y m regs₁ psw₁ cex₁ m₁ r → length regs₁ ≡ length regs
served-eight free regs m regs₁ m₁ psw w x y psw₁ cex₁ r v =
    let c = core_of (set regs 7 x) psw y in
    let e = effect_of c (decode_of w) in
    sym (length-set regs₁ 7 (r % 65536))
    ∙ ap (λ (t : State). length t.core.regs) (v.1 c 0 0)
    ∙ granted-eight c e.core e.access 0 m v.6
    ∙ effect-eight c (decode_of w)
    ∙ length-set regs 7 x

-- what the code of a step gives; k is where the PC in p is, and x past the word
pub step-taken :
    (free : Bool) (p w x y psw psw₁ cex₁ r : ℕ) (regs m regs₁ m₁ : List ℕ) → Awake regs psw → p % 2 ≡ 0 → w ≡ word_at m (p % 65536) →
    x ≡ (p % 65536 + 2) % 65536 → Taken free (decode_of w) (set regs 7 x) psw y m regs₁ psw₁ cex₁ m₁ r →
    Stepping free p regs psw y m regs₁ psw₁ cex₁ m₁ r
step-taken free p w x y psw psw₁ cex₁ r regs m regs₁ m₁ a even ew ex =
    ⊎_elim
    (λ u. inl (u.0, (u.1.0 ∙ ap (set regs 7) ex, u.1.1, u.1.2, u.1.3))) (λ v.
    let k = p % 65536 in
    let here = set regs 7 k in
    let long = a.1 in
    let at : get_or here 7 0 ≡ k = get_or-set_same regs 7 k 0 long in
    let evenly : get_or here 7 0 % 2 ≡ 0 = rw at (omega arith) in
    let word : w ≡ word_at m (get_or here 7 0) = ew ∙ ap (word_at m) (sym at) in
    let past : x ≡ wrap (get_or here 7 0 + 2) = ex ∙ ap (λ (n : ℕ). wrap (n + 2)) (sym at) in
    let v' : Served free (decode_of w) (set here 7 x) psw y m regs₁ psw₁ cex₁ m₁ r =
    subst (λ (l : List ℕ). Served free (decode_of w) l psw y m regs₁ psw₁ cex₁ m₁ r) (sym (set-set regs 7 k x)) v in
    inr (
      v.0,
      (
        (λ l c none s e. step-served free here m regs₁ m₁ psw c w x y psw₁ cex₁ r evenly a.0 word past s e v' l none),
        v.2,
        (
          v.3.0 ∙ a.0,
          subst (λ (n : ℕ). 7 < n)
              (sym (length-set regs 7 k) ∙ sym (served-eight free here m regs₁ m₁ psw w x y psw₁ cex₁ r v'))
              long,
        ),
        v.4,
        v.5,
      ),
    ))

-- ---- uneventful steps one after the other

pub passes_none : (ev : List Event) (s : State) → Passes ev s s 0
passes_none ev s = (sym (run-zero ev s), uneventful-none ev s)

passes-next :
    (ev : List Event) (s₀ s u : State) (j : ℕ) → Passes ev s₀ s j → s.halted ≡ false → deliver ev s ≡ s → u ≡ finished s →
    uneventful? (plan_of s).act ≡ true → Passes ev s₀ u (j + 1)
passes-next ev s₀ s u j f h d e t = (
  run-turn ev s₀ s s u j f.0 h (sym d) e,
  uneventful-append ev s₀ j 1 f.1
      (subst (λ (x : State). Uneventful ev x 1) (ap (λ x. x.state) f.0)
      (uneventful-one ev s (ap (λ (x : State). uneventful? (plan_of x).act) d ∙ t))),
)

-- ---- a stretch of instructions

pub reaches-start : (l : ℕ) (regs m : List ℕ) (psw cex : ℕ) → Reaches l regs psw cex m regs psw cex m 0
reaches-start l regs m psw cex q = (
  q,
  λ ev k u.
      let e : k + 0 ≡ k = omega arith in
      rw e (passes_none ev (running regs psw cex l k m)),
)

reaches-next :
    (l : ℕ) (regs₀ m₀ regs m regs₁ m₁ : List ℕ) (psw₀ cex₀ psw cex psw₁ cex₁ j : ℕ) →
    Reaches l regs₀ psw₀ cex₀ m₀ regs psw cex m j → OneStep l regs psw cex m regs₁ psw₁ cex₁ m₁ →
    Reaches l regs₀ psw₀ cex₀ m₀ regs₁ psw₁ cex₁ m₁ (j + 1)
reaches-next l regs₀ m₀ regs m regs₁ m₁ psw₀ cex₀ psw cex psw₁ cex₁ j f g q =
    let a = f q in
    let b = g a.0 in (
      b.0,
      λ ev k u.
          let s = running regs psw cex l (k + j) m in
          let e : k + (j + 1) ≡ k + j + 1 = omega arith in
          rw e
          (passes-next ev (running regs₀ psw₀ cex₀ l k m₀) s (running regs₁ psw₁ cex₁ l (k + j + 1) m₁) j
          (a.1 ev k (λ i a b t. u i a (omega arith) t))
          refl
          (u (k + j) (omega arith) (omega arith) s) (b.1 (k + j)) (b.2 (k + j))),
    )

module _ (l : ℕ) (regs m : List ℕ) (psw cex : ℕ) where
  pub goes_none : Goes l regs psw cex m regs psw cex m 0
  goes_none r p x o j f = let e : j + 0 ≡ j = omega arith in rw e f

  pub goes_one : (regs₁ m₁ : List ℕ) (psw₁ cex₁ : ℕ) → OneStep l regs psw cex m regs₁ psw₁ cex₁ m₁
      → Goes l regs psw cex m regs₁ psw₁ cex₁ m₁ 1
  goes_one regs₁ m₁ psw₁ cex₁ g r p x o j f = reaches-next l r o regs m regs₁ m₁ p x psw cex psw₁ cex₁ j f g

  pub goes-join :
      (regs₁ m₁ regs₂ m₂ : List ℕ) (psw₁ cex₁ psw₂ cex₂ a b : ℕ) → Goes l regs psw cex m regs₁ psw₁ cex₁ m₁ a →
      Goes l regs₁ psw₁ cex₁ m₁ regs₂ psw₂ cex₂ m₂ b → Goes l regs psw cex m regs₂ psw₂ cex₂ m₂ (a + b)
  goes-join regs₁ m₁ regs₂ m₂ psw₁ cex₁ psw₂ cex₂ a b f g r p x o j h =
      let e : j + (a + b) ≡ j + a + b = omega arith in
      rw e (g r p x o (j + a) (f r p x o j h))

-- ---- the steps of a loop

module _ (free : Bool) (regs₀ m₀ : List ℕ) (psw₀ x₀ : ℕ) where
  -- what has been walked, and one step more
  pub walked_next :
      (regs m regs₁ m₁ : List ℕ) (psw cex psw₁ cex₁ p r j n : ℕ) →
      Walked free regs₀ psw₀ x₀ m₀ (set regs 7 (p % 65536)) psw cex m j → (cex % 64 ≡ 0) ⊎ (n ≤ 1) → j < n →
      Stepped free p regs psw cex m regs₁ psw₁ cex₁ m₁ r →
      Walked free regs₀ psw₀ x₀ m₀ (set regs₁ 7 (r % 65536)) psw₁ cex₁ m₁ (j + 1)
  walked_next regs m regs₁ m₁ psw cex psw₁ cex₁ p r j n f b lt g =
      inr (
        omega arith,
        (λ l c none s e.
            ⊎_elim
            (λ u.
            let e₁ : j + 1 ≡ 1 = ap (λ (k : ℕ). k + 1) u.0 in
            rw e₁
            (goes_one l regs₀ m₀ psw₀ c (set regs₁ 7 (r % 65536)) m₁ psw₁ cex₁
            (subst (λ (k : List ℕ). OneStep l k psw₀ c m₀ (set regs₁ 7 (r % 65536)) psw₁ cex₁ m₁) u.1.0
            (subst (λ (k : ℕ). OneStep l (set regs 7 (p % 65536)) k c m₀ (set regs₁ 7 (r % 65536)) psw₁ cex₁ m₁) u.1.1
            (subst (λ (k : List ℕ). OneStep l (set regs 7 (p % 65536)) psw c k (set regs₁ 7 (r % 65536)) psw₁ cex₁ m₁) u.1.3
            (g.0 l c none s (e ∙ sym u.1.2))))))) (λ v.
            let pos = v.0 in
            let h = shut v.0 in
            let o = shut_none cex h in
            goes-join l regs₀ m₀ psw₀ c (set regs 7 (p % 65536)) m (set regs₁ 7 (r % 65536)) m₁ psw cex psw₁ cex₁ j 1 (v.1 l c none s e)
            (goes_one l (set regs 7 (p % 65536)) m psw cex (set regs₁ 7 (r % 65536)) m₁ psw₁ cex₁ (g.0 l cex none o.0 o.1)))
            f),
      )
    where
      shut : 0 < j → cex % 64 ≡ 0
      shut h = ⊎_elim (λ z. z) (λ z. absurd (omega arith)) b

  pub walked_start : get_or regs₀ 7 0 < 65536 → Walked free regs₀ psw₀ x₀ m₀ (set regs₀ 7 (get_or regs₀ 7 0 % 65536)) psw₀ x₀ m₀ 0
  walked_start lt = inl (refl, (ap (set regs₀ 7) (mod-eq_of_lt lt) ∙ set-get_or regs₀ 7 0, refl, refl, refl))

-- a register file stays as long
pub long-set : (regs : List ℕ) (v : ℕ) → 7 < length regs → 7 < length (set regs 7 v)
long-set regs v = subst (λ (n : ℕ). 7 < n) (sym (length-set regs 7 v))

pub awake-set : (regs : List ℕ) (psw v : ℕ) → Awake regs psw → Awake (set regs 7 v) psw
awake-set regs psw v a = (a.0, long-set regs v a.1)

-- PC put back before a word that was left alone
back : (regs : List ℕ) (p : ℕ) → 7 < length regs →
    set (set regs 7 ((p % 65536 + 2) % 65536)) 7 ((get_or (set regs 7 ((p % 65536 + 2) % 65536)) 7 0 + 65534) % 65536) ≡ set regs 7
    (p % 65536)
back regs p h =
    let y = (p % 65536 + 2) % 65536 in
    let e : (y + 65534) % 65536 ≡ p % 65536 = near (p % 65536) (omega arith) in
    set-set regs 7 y ((get_or (set regs 7 y) 7 0 + 65534) % 65536)
    ∙ ap (λ (n : ℕ). set regs 7 ((n + 65534) % 65536)) (get_or-set_same regs 7 y 0 h)
    ∙ ap (set regs 7) e
  where
    near : (k : ℕ) → k < 65536 → ((k + 2) % 65536 + 65534) % 65536 ≡ k
    near k lt = omega arith

module _ (free : Bool) (regs₀ m₀ : List ℕ) (psw₀ x₀ : ℕ) (regs m regs₁ m₁ : List ℕ) (psw cex psw₁ cex₁ p r j n : ℕ) (a : Awake regs psw)
    (f : Walked free regs₀ psw₀ x₀ m₀ (set regs 7 (p % 65536)) psw cex m j) (b : (cex % 64 ≡ 0) ⊎ (n ≤ 1)) (lt : j < n)
    (g : Stepping free p regs psw cex m regs₁ psw₁ cex₁ m₁ r) where
  -- the loop goes on
  pub walked_on :
      r < left_alone →
      Awake regs₁ psw₁ × (r % 2 ≡ 0) × ((cex₁ % 64 ≡ 0) ⊎ (n ≤ 1))
      × Walked free regs₀ psw₀ x₀ m₀ (set regs₁ 7 (r % 65536)) psw₁ cex₁ m₁ (j + 1)
  walked_on h =
      ⊎_elim
      (λ u. let e = u.0 in absurd (omega arith)) (λ v. (
        v.1.2,
        v.1.1 h,
        ⊎_elim (λ z. inl (v.1.4 z)) (λ z. inr z) b,
        walked_next free regs₀ m₀ psw₀ x₀ regs m regs₁ m₁ psw cex psw₁ cex₁ p r j n f b lt v.1,
      ))
      g

  -- or ends at a word that was left alone
  pub walked-back :
      r ≡ left_alone →
      let regs₂ = set regs₁ 7 ((get_or regs₁ 7 0 + 65534) % 65536) in
      Walked free regs₀ psw₀ x₀ m₀ regs₂ psw₁ cex₁ m₁ j × Awake regs₂ psw₁
  walked-back here =
      ⊎_elim
      (λ t.
      let e : set regs₁ 7 ((get_or regs₁ 7 0 + 65534) % 65536) ≡ set regs 7 (p % 65536) =
      ap (λ (q : List ℕ). set q 7 ((get_or q 7 0 + 65534) % 65536)) t.1.0 ∙ back regs p a.1 in
      rw (e, t.1.1, t.1.2, t.1.3) (f, awake-set regs psw (p % 65536) a))
      (λ t. absurd (t.0 here))
      g

  -- or after one that was the last
  pub walked-last :
      (r ≡ left_alone → ⊥) →
      Walked free regs₀ psw₀ x₀ m₀ (set regs₁ 7 (r % 65536)) psw₁ cex₁ m₁ (j + 1) × Awake (set regs₁ 7 (r % 65536)) psw₁
  walked-last taken =
      ⊎_elim
      (λ t. absurd (taken t.0)) (λ t. (
        walked_next free regs₀ m₀ psw₀ x₀ regs m regs₁ m₁ psw cex psw₁ cex₁ p r j n f b lt t.1,
        awake-set regs₁ psw₁ (r % 65536) t.1.2,
      ))
      g

-- where no block is open, none is after a step
pub stays-shut :
    (free : Bool) (regs m regs₁ m₁ : List ℕ) (psw cex psw₁ cex₁ p r : ℕ) → Stepping free p regs psw cex m regs₁ psw₁ cex₁ m₁ r
    → cex % 64 ≡ 0 → cex₁ % 64 ≡ 0
stays-shut free regs m regs₁ m₁ psw cex psw₁ cex₁ p r g h =
    ⊎_elim (λ u. ap (λ (n : ℕ). n % 64) u.1.2 ∙ h) (λ v. v.1.4 h) g

-- ---- what was walked, from the CEX state before the count was lowered

module _ (free : Bool) (regs m regs₁ m₁ : List ℕ) (psw x psw₁ cex₁ j : ℕ) (f : Walked free regs psw x m regs₁ psw₁ cex₁ m₁ j) where
  -- in no block
  walked-shut : (l : ℕ) → FreeOf free l → x % 64 ≡ 0 → Goes l regs psw x m regs₁ psw₁ cex₁ m₁ j
  walked-shut l none h =
      let o = shut_none x h in
      ⊎_elim (λ u. rw (u.0, u.1.0, u.1.1, u.1.2, u.1.3) (goes_none l regs m psw x)) (λ v. v.1 l x none o.0 o.1) f

  -- one step that a block covers, or none
  pub walked_one :
      (l c : ℕ) → FreeOf free l → skips? c ≡ false → lowered c ≡ x → (j ≡ 0 → ⊥) → Goes l regs psw c m regs₁ psw₁ cex₁ m₁ j
  walked_one l c none s e n = ⊎_elim (λ u. absurd (n u.0)) (λ v. v.1 l c none s e) f

  pub walked-left : j ≡ 0 → Untouched regs psw x m regs₁ psw₁ cex₁ m₁
  walked-left e = ⊎_elim (λ u. u.1) (λ v. let h = v.0 in absurd (omega arith)) f

  pub walked_none : (l c : ℕ) → j ≡ 0 → Goes l regs psw c m regs₁ psw c m₁ 0
  walked_none l c e =
      ⊎_elim (λ u. rw (u.1.0, u.1.3) (goes_none l regs m psw c)) (λ v. let h = v.0 in absurd (omega arith)) f

-- the lowered state of one with no count left has none
pub lowered-shut : (x y : ℕ) → y ≡ lowered x → x % 64 ≡ 0 → y % 64 ≡ 0
lowered-shut x y e h = ap (λ (n : ℕ). n % 64) (e ∙ (shut_none x h).1) ∙ h

-- with no block open the CEX state x is not lowered, and all steps may be taken; of them d are left
pub walked-free :
    (free : Bool) (regs m regs₁ m₁ : List ℕ) (psw x y psw₁ cex₁ steps left r d : ℕ) → y ≡ lowered x → (x % 64 ≡ 0 → steps ≡ left) → r ≡ d →
    x % 64 ≡ 0 → Walked free regs psw y m regs₁ psw₁ cex₁ m₁ (steps - r) → (l : ℕ) → FreeOf free l →
    Goes l regs psw x m regs₁ psw₁ cex₁ m₁ (left - d)
walked-free free regs m regs₁ m₁ psw x y psw₁ cex₁ steps left r d ey es er h f l none =
    let e : y ≡ x = ey ∙ (shut_none x h).1 in
    subst (λ (n : ℕ). Goes l regs psw x m regs₁ psw₁ cex₁ m₁ (n - d)) (es h)
    (subst (λ (n : ℕ). Goes l regs psw x m regs₁ psw₁ cex₁ m₁ (steps - n)) er
    (subst (λ (n : ℕ). Goes l regs psw n m regs₁ psw₁ cex₁ m₁ (steps - r)) e
    (walked-shut free regs m regs₁ m₁ psw y psw₁ cex₁ (steps - r) f l none (lowered-shut x y ey h))))

-- ---- CEX

decode-cex : (w : ℕ) → w / 1024 ≡ 20 → decode_of w ≡ i.Cex (w / 64 % 16) (w / 8 % 8) (w % 8)
unfolding decode_of
decode-cex w h =
    simp (
      le-ltb w 0x2000 (omega arith),
      le-ltb w 0x4000 (omega arith),
      le-ltb w 0x4C00 (omega arith),
      le-ltb w 0x5000 (omega arith),
      lt-ltb w 0x6000 (omega arith),
      lt-ltb w 0x5400 (omega arith),
    )

pub cex-loaded :
    (l : ℕ) (regs m : List ℕ) (psw cex w v x : ℕ) → get_or regs 7 0 % 2 ≡ 0 → asleep? psw ≡ false → skips? cex ≡ false →
    w ≡ word_at m (get_or regs 7 0) → w / 1024 ≡ 20 → v ≡ wrap (get_or regs 7 0 + 2) → x
    ≡ loaded_cex (w / 64 % 16) (w / 8 % 8) (w % 8) psw →
    OneStep l regs psw cex m (set regs 7 v) psw x m
unfolding advanced effect_of granted perform commit
cex-loaded l regs m psw cex w v x even woken s ew h ev ex q =
    let plan : (n : ℕ) → plan_of (running regs psw cex l n m)
    ≡ planned (core_of (set regs 7 (wrap (get_or regs 7 0 + 2))) psw (loaded_cex (w / 64 % 16) (w / 8 % 8) (w % 8) psw)) act.Plain =
    λ n.
    plan-runs (running regs psw cex l n m) refl even woken q s
    ∙ ap (λ (u : ℕ). executed (core_of regs psw cex) (effect_of (advanced (core_of regs psw cex)) (decode_of u)) m) (sym ew)
    ∙ ap (λ (u : Instr). executed (core_of regs psw cex) (effect_of (advanced (core_of regs psw cex)) u) m) (decode-cex w h) in (
      q,
      (λ n. (λ j. running (set regs 7 (ev j)) psw (ex j) l (n + 1) m) ∙ ap (λ (p : Plan). carried_out p l n m) (sym (plan n))),
      (λ n. ap (λ (p : Plan). uneventful? p.act) (plan n)),
    )

-- ---- sleep

-- s with the count n
abbrev with_count : State → ℕ → State
with_count s n = record { core = s.core; lines = s.lines; halted = s.halted; count = n; mem = s.mem }

-- not halted, SLP set, no line above the priority
abbrev pub Asleep : State → Type 0
Asleep s = (s.halted ≡ false) × (asleep? s.core.psw ≡ true) × NoneAbove s.mem s.lines (current s.core.psw)

module _ (s : State) (h : Asleep s) where
  not-woken : interrupt_of s.core s.lines s.mem ≡ step.nothing
  unfolding interrupt_of
  not-woken = rw (h.1, h.2) refl

  sleep-plan : plan_of s ≡ planned s.core act.Sleep
  sleep-plan =
      let c = s.core in
      plan-live s h.0 ∙ ap (λ (i : Interrupt). chosen i c (instruction_of c s.mem)) not-woken ∙ instruction-asleep c s.mem h.1

  -- a step asleep changes nothing but the count
  sleep-step : finished s ≡ with_count s (s.count + 1)
  unfolding perform commit
  sleep-step =
      ap (λ (p : Plan). carried_out p s.lines s.count s.mem) sleep-plan
      ∙ (λ i. record { core = s.core; lines = s.lines; halted = sym h.0 i; count = s.count + 1; mem = s.mem })

-- nor does a run asleep in which no event is due
pub sleep-run :
    (ev : List Event) (s : State) (k : ℕ) → Asleep s → Undisturbed ev s.count (s.count + k) →
    Passes ev s (with_count s (s.count + k)) k
sleep-run ev s zero h u =
    let e : s.count + 0 ≡ s.count = omega arith in
    subst (λ (n : ℕ). Passes ev s (with_count s n) 0) (sym e) (passes_none ev s)
sleep-run ev s (suc k) h u =
    let n = s.count in
    let t = with_count s (n + k) in
    let e : n + (k + 1) ≡ n + k + 1 = omega arith in
    subst (λ (j : ℕ). Passes ev s (with_count s (n + j)) j) (add-one k)
    (passes-next ev s t (with_count s (n + (k + 1))) k
    (sleep-run ev s k h (λ i a b. u i a (omega arith))) h.0 (u (n + k) (omega arith) (omega arith) t)
    (ap (with_count s) e ∙ sym (sleep-step t h)) (ap (λ (p : Plan). uneventful? p.act) (sleep-plan t h)))

-- ---- the call

module _ (ev : List Event) (regs m : List ℕ) (psw cex l k n : ℕ) where
  abbrev here : State
  here = running regs psw cex l k m

  pub stretch-none : Passes ev here (running regs psw cex l (k + (n - n)) m) (n - n)
  stretch-none =
      let z : n - n ≡ 0 = omega arith in
      let e : k + 0 ≡ k = omega arith in
      rw (z, e) (passes_none ev here)

  pub stretch-asleep :
      asleep? psw ≡ true → NoneAbove m l (current psw) → Undisturbed ev k (k + n) →
      Passes ev here (running regs psw cex l (k + (n - 0)) m) (n - 0)
  stretch-asleep h q u =
      let e : n - 0 ≡ n = omega arith in
      rw e (sleep-run ev here n (refl, h, q) u)

  pub stretch-done :
      (regs₁ m₁ : List ℕ) (psw₁ cex₁ j : ℕ) → NoneAbove m l (current psw) → j ≤ n → Goes l regs psw cex m regs₁ psw₁ cex₁ m₁ j →
      Undisturbed ev k (k + n) → Passes ev here (running regs₁ psw₁ cex₁ l (k + j) m₁) j
  stretch-done regs₁ m₁ psw₁ cex₁ j q h f u = (reached q).1 ev k (λ i a b. u i a (omega arith))
    where
      reached : Reaches l regs psw cex m regs₁ psw₁ cex₁ m₁ j
      reached =
          let z : 0 + j ≡ j = omega arith in
          subst (Reaches l regs psw cex m regs₁ psw₁ cex₁ m₁) z (f regs psw cex m 0 (reaches-start l regs m psw cex))
