-- No handler's SP and no pushed byte lies further below the application's SP than the figure: the priorities of open
-- frames rise (resume's Depth), and each handler adds at most 8 and its use. One induction for both ways of measuring.
-- Assumes nothing.
use Prim.Native.Nat.{ℕ, zero, suc, ◌+◌, ◌*◌, ◌-◌, ◌%◌, ◌<◌, ◌≤◌}
use mathlib.Core.Bool.{true, false, cond, ◌||◌, true≢false}
use mathlib.Core.List.{List, [], ◌∷◌}
use mathlib.Core.Logic.{inl, inr}
use mathlib.Core.Path.{◌≡◌, refl, sym, ap, subst, ◌∙◌}
use native.Mathlib.Omega.{arith}
use lib.ListN.{get_or}
use Rattle.word.specs.Psw.{faulted?, current}
use Rattle.machine.specs.State.{State, sp, wrap, down}
use Rattle.machine.specs.Memory.{byte_at, even, commit, writes?}
use Rattle.machine.specs.Record.{state_in}
use Rattle.machine.specs.Events.{Event, events_of}
use Rattle.machine.specs.Entry.{priority, vectored, pulled}
use Rattle.machine.specs.declared.Act.{Act}
use Rattle.machine.specs.declared.Act.TheVariants as acts
use Rattle.machine.specs.Step.{perform, outcome_of, finished}
use Rattle.machine_laws.specs.Bounds.{Each, Tidy, ActFits, EventFits, Pushed}
use Rattle.machine_laws.specs.Passed.{Passed}
use Rattle.machine_laws.proofs.Cases.{bool_cases}
use Rattle.machine_laws.proofs.Plans.{plan-halted}
use Rattle.machine_laws.proofs.Records.{passed, start-tidy, events-fit}
use Rattle.machine_laws.proofs.Runs.{step-halted, step-live, run_step}
use Rattle.machine_laws.proofs.Steps.{deliver-tidy, deliver-core, deliver-halted, run-tidy, plan-fits}
use Rattle.machine_laws.proofs.Writes.{fits-devices, deliver-bytes, perform-writes}
use Rattle.resume.specs.Frames.{Frame, Calm, svc?, none?, frames_after, after, due, act, frames}
use Rattle.resume.specs.Depth.{lowest, levels_after, newest, Rising, levels}
use Rattle.resume.proofs.Frame.{three, Saved, saves, sp_back}
use Rattle.resume.proofs.Steady.{Faultless, Steady, calm-faultless, plan-core, plan-moves}
use Rattle.resume.proofs.Depth.{priorities-rise}
use Rattle.stack_need.specs.Need.{given?, level_of, use_of, cost_of, need_of, sum_above}
use Rattle.stack_need.specs.Stack.{below, Handler, handlers_after, return?, works?, handlers, opened}
use Rattle.stack_need.specs.Stack.{RunPremises, StackPremises, PlainPremises, Within, PlainWithin}
use Rattle.stack_need.proofs.Need.{sum-device, need-is}

-- ---- distances downwards

mod-add : (u v : ℕ) → (u + v) % 65536 ≤ u % 65536 + v % 65536
mod-add u v = omega arith

up-whole : (x : ℕ) → (65536 + x) % 65536 ≡ x % 65536
up-whole x = omega arith

below-add : (a b c : ℕ) → a < 65536 → b < 65536 → c < 65536 → below a c ≤ below a b + below b c
below-add a b c ha hb hc =
    let e : a + 65536 - b + (b + 65536 - c) ≡ 65536 + (a + 65536 - c) = omega arith in
    let f : (65536 + (a + 65536 - c)) % 65536 ≡ (a + 65536 - c) % 65536 = up-whole (a + 65536 - c) in
    subst (λ x. x ≤ below a b + below b c) (ap (λ x. x % 65536) e ∙ f) (mod-add (a + 65536 - b) (b + 65536 - c))

below-eight : (b : ℕ) → b < 65536 → below b (down b 8) ≤ 8
below-eight b h = omega arith

below-pushed : (x i : ℕ) → x < 65536 → x % 2 ≡ 0 → i < 8 → below x (wrap (even (down x 8) + i)) ≤ 8
below-pushed x i h e l = omega arith

below_self : (b : ℕ) → b < 65536 → below b b ≤ 0
below_self b h = omega arith

-- a way of measuring: `Far y x n` says that x lies no further below y than n
record Measure (Far : ℕ → ℕ → ℕ → Type 0) : Type 0 where
  self : (a : ℕ) → a < 65536 → Far a a 0
  more : (a b : ℕ) {m n : ℕ} → Far a b m → m ≤ n → Far a b n
  add : (a b c : ℕ) {m n : ℕ} → a < 65536 → b < 65536 → c < 65536 → Far a b m → Far b c n → Far a c (m + n)

-- downwards, modulo 65,536; and in plain numbers
abbrev Wrapping : ℕ → ℕ → ℕ → Type 0
Wrapping y x n = below y x ≤ n

abbrev Plainly : ℕ → ℕ → ℕ → Type 0
Plainly y x n = y ≤ n + x

wrapping : Measure Wrapping
wrapping =
    record {
      self = below_self;
      more = λ a b h l. omega arith;
      add = λ a b c ha hb hc h l. let t = below-add a b c ha hb hc in omega arith;
    }

plainly : Measure Plainly
plainly =
    record { self = λ a h. omega arith; more = λ a b h l. omega arith; add = λ a b c ha hb hc h l. omega arith }

plain-eight : (b : ℕ) → b < 65536 → Plainly b (down b 8) 8
plain-eight b h = omega arith

plain-pushed : (x i : ℕ) → x < 65536 → x % 2 ≡ 0 → i < 8 → Plainly x (wrap (even (down x 8) + i)) 8
plain-pushed x i h e l = omega arith

-- ---- what is known of the open frames, their handlers and their priorities

module _ (vectors : List ℕ) (devices : ℕ) (uses : List ℕ) (p : ℕ) where
  -- what the handlers cost
  costs : List Handler → ℕ
  costs [] = 0
  costs (h ∷ hs) = cost_of uses h.vector + costs hs

  -- each frame has one handler and one priority: that of the handler's vector, which is a given device's
  Paired : List Frame → List Handler → List ℕ → Type 0
  Paired [] [] [] = Unit {0}
  Paired [] [] (l ∷ ls) = ⊥
  Paired [] (h ∷ hs) ls = ⊥
  Paired (f ∷ fs) [] ls = ⊥
  Paired (f ∷ fs) (h ∷ hs) [] = ⊥
  Paired (f ∷ fs) (h ∷ hs) (l ∷ ls) =
      (l ≡ level_of vectors h.vector) × (h.vector < 8) × (given? devices h.vector ≡ true) × Paired fs hs ls

  -- priorities that rise from q rise from what is not above it
  newest-lower : (q : ℕ) → p ≤ q → (ls : List ℕ) → newest p ls ≤ newest q ls
  newest-lower q h [] = h
  newest-lower q h (l ∷ ls) = omega arith

  rising-lower : (q : ℕ) → p ≤ q → (ls : List ℕ) → Rising q ls → Rising p ls
  rising-lower q h [] r = tt
  rising-lower q h (l ∷ ls) r =
      let a = newest-lower q h ls in
      let b : newest q ls < l = r.0 in
      (omega arith, rising-lower q h ls r.1)

  -- the handlers cost no more than the levels from p up to the newest need
  rising-costs : (fs : List Frame) (hs : List Handler) (ls : List ℕ) → Paired fs hs ls → Rising p ls
      → costs hs + sum_above vectors devices uses 7 (newest p ls) ≤ sum_above vectors devices uses 7 p
  unfolding Paired costs
  rising-costs [] [] [] h r = omega arith
  rising-costs [] [] (l ∷ ls) h r = absurd h
  rising-costs [] (g ∷ hs) ls h r = absurd h
  rising-costs (f ∷ fs) [] ls h r = absurd h
  rising-costs (f ∷ fs) (g ∷ hs) [] h r = absurd h
  rising-costs (f ∷ fs) (g ∷ hs) (l ∷ ls) h r =
      let up : newest p ls < level_of vectors g.vector = subst (λ x. newest p ls < x) h.0 r.0 in
      let a = sum-device vectors devices uses g.vector (newest p ls) h.1 h.2 up in
      let b = rising-costs fs hs ls h.3 r.1 in
      let e : sum_above vectors devices uses 7 l ≡ sum_above vectors devices uses 7 (level_of vectors g.vector) =
      ap (sum_above vectors devices uses 7) h.0 in
      omega arith

Accepts : Act → Type 0
Accepts acts.Stopped = ⊥
Accepts acts.Pull = ⊥
Accepts (acts.Chain d) = ⊥
Accepts (acts.Accept d) = Unit {0}
Accepts acts.Sleep = ⊥
Accepts (acts.Fault v) = ⊥
Accepts acts.Halt = ⊥
Accepts acts.Skip = ⊥
Accepts (acts.Trap v) = ⊥
Accepts acts.Plain = ⊥
Accepts (acts.Loads byte a d) = ⊥
Accepts (acts.Stores byte a v) = ⊥

not_stopped : (d : ℕ) → acts.Accept d ≡ acts.Stopped → ⊥
unfolding Accepts
not_stopped d e = subst Accepts e tt

-- ---- the run

module _ (memory r events vectors : List ℕ) (devices : ℕ) (uses : List ℕ) (p n : ℕ)
    (P : RunPremises memory r events vectors devices uses p n) where
  abbrev ev : List Event
  ev = events_of events

  abbrev s : State
  s = state_in r memory

  rules : Passed memory r events n
  rules = passed memory r events n P.depth.accepted.accepted

  fit : Each EventFits ev
  fit = events-fit memory r events n rules P.depth.accepted.event_bytes

  tidy : Tidy s
  tidy = start-tidy memory r events n rules P.depth.accepted.memory_bytes P.depth.accepted.record_bytes

  after-tidy : (k : ℕ) → Tidy (after ev s k)
  after-tidy k = run-tidy ev s k fit tidy

  due-tidy : (k : ℕ) → Tidy (due ev s k)
  due-tidy k = deliver-tidy (after ev s k).count ev (after ev s k) fit (after-tidy k)

  due-core : (k : ℕ) → (due ev s k).core ≡ (after ev s k).core
  due-core k = deliver-core (after ev s k).count ev (after ev s k)

  -- the vectors of the run are those given
  due-byte : (k i : ℕ) → k ≤ n → i < 64 → byte_at (due ev s k).mem (0xFFC0 + i) ≡ byte_at vectors i
  due-byte k i h l =
      let size = (after-tidy k).size in
      deliver-bytes (after ev s k).count ev (after ev s k) (0xFFC0 + i) (fits-devices ev fit) (omega arith) (rw size (omega arith))
      ∙ P.unaltered k i h l

  level-is : (k d : ℕ) → k ≤ n → d < 8 → priority (due ev s k).mem d ≡ level_of vectors d
  unfolding level_of
  level-is k d h l =
      let e : even (0xFFC0 + 4 * d) ≡ 0xFFC0 + 4 * d = omega arith in
      let e₁ : even (0xFFC0 + 4 * d) + 1 ≡ 0xFFC0 + (4 * d + 1) = omega arith in
      let a = ap (byte_at (due ev s k).mem) e ∙ due-byte k (4 * d) h (omega arith) in
      let b = ap (byte_at (due ev s k).mem) e₁ ∙ due-byte k (4 * d + 1) h (omega arith) in
      λ i. current (a i + 256 * b i)

  faultless : (k : ℕ) → k < n → Faultless (act ev s k)
  faultless k l = calm-faultless (act ev s k) (frames ev s k) (P.depth.calm k l)

  no-trap : (k v : ℕ) → k < n → act ev s k ≡ acts.Trap v → ⊥
  no-trap k v l q = true≢false (sym (ap svc? q) ∙ P.depth.no_svc k l)

  device : (k d : ℕ) → act ev s k ≡ acts.Accept d → d < 8
  device k d q = subst ActFits q (plan-fits (due ev s k) (due-tidy k)).1

  chained-device : (k d : ℕ) → act ev s k ≡ acts.Chain d → d < 8
  chained-device k d q = subst ActFits q (plan-fits (due ev s k) (due-tidy k)).1

  -- ---- SP after a step

  module _ (k : ℕ) (l : k < n) (live : (after ev s k).halted ≡ false) where
    next-is : after ev s (suc k) ≡ finished (due ev s k)
    next-is = run_step ev s k ∙ step-live ev (after ev s k) live

    outcome-is : (a : Act) → act ev s k ≡ a → (Steady a → ⊥)
        → outcome_of (due ev s k) ≡ perform a (due ev s k).core (due ev s k).lines (due ev s k).mem
    outcome-is a q u =
        let c = plan-core (due ev s k) (faultless k l) (λ h. u (subst Steady q h)) in
        λ i. perform (q i) (c i) (due ev s k).lines (due ev s k).mem

    entry-saves : (d : ℕ) → act ev s k ≡ acts.Accept d → Saved (after ev s (suc k)) (due ev s k).core
    unfolding perform
    entry-saves d q =
        let c = (due ev s k).core in
        let m = (due ev s k).mem in
        let o = outcome-is (acts.Accept d) q (λ h. h) in
        saves c m (due-tidy k).core (due-tidy k).size d (current c.psw) (false || faulted? c.psw) (after ev s (suc k))
        (ap (λ t. t.core) next-is ∙ ap (λ x. x.core) o) (ap (λ t. t.mem) next-is ∙ ap (λ x. commit x.writes m) o)

    chained-stack : (d : ℕ) → act ev s k ≡ acts.Chain d → sp (after ev s (suc k)).core ≡ sp (due ev s k).core
    unfolding perform vectored
    chained-stack d q =
        ap (λ t. sp t.core) next-is ∙ ap (λ x. sp x.core) (outcome-is (acts.Chain d) q (λ h. h))
        ∙ ap (λ x. get_or x 6 0) (three (due ev s k).core.regs _ _ _ (due-tidy k).core.eight)

    pulled-stack : act ev s k ≡ acts.Pull → sp (after ev s (suc k)).core ≡ wrap (sp (due ev s k).core + 8)
    unfolding perform pulled
    pulled-stack q =
        ap (λ t. sp t.core) next-is ∙ ap (λ x. sp x.core) (outcome-is acts.Pull q (λ h. h))
        ∙ ap (λ x. get_or x 6 0) (three (due ev s k).core.regs _ _ _ (due-tidy k).core.eight)

  -- what the handlers hold and the entries push, by a way of measuring
  record Measured (Far : ℕ → ℕ → ℕ → Type 0) : Type 0 where
    measure : Measure Far
    held : (k : ℕ) (h : Handler) (hs : List Handler) → k < n → works? (act ev s k) ≡ true → handlers ev s k ≡ h ∷ hs
        → Far h.left (sp (after ev s (suc k)).core) (use_of uses h.vector)
    entry : (k d : ℕ) → k < n → act ev s k ≡ acts.Accept d → Far (sp (due ev s k).core) (down (sp (due ev s k).core) 8) 8
    pushed : (k d i : ℕ) → k < n → act ev s k ≡ acts.Accept d → i < 8
        → Far (sp (due ev s k).core) (wrap (even (down (sp (due ev s k).core) 8) + i)) 8

  module _ (Far : ℕ → ℕ → ℕ → Type 0) (M : Measured Far) where
    -- SP lies within the newest handler's figure, and where an older one was interrupted it lay within that one's
    HeldIn : ℕ → List Handler → Type 0
    HeldIn x [] = Unit {0}
    HeldIn x (h ∷ hs) = Far h.left x (use_of uses h.vector)

    Nested : List Handler → Type 0
    Nested [] = Unit {0}
    Nested (h ∷ hs) = (h.left < 65536) × HeldIn (wrap (h.left + 8)) hs × Nested hs

    record Kept (k : ℕ) : Type 0 where
      held_in : HeldIn (sp (after ev s k).core) (handlers ev s k)
      nested : Nested (handlers ev s k)

    module _ (k : ℕ) (l : k < n) (K : Kept k) where
      kept-nested : (hs : List Handler) → handlers ev s k ≡ hs → Nested hs
      kept-nested hs g = subst Nested g K.nested

      kept-due : (hs : List Handler) → handlers ev s k ≡ hs → HeldIn (sp (due ev s k).core) hs
      kept-due hs g = subst (λ c. HeldIn (sp c) hs) (sym (due-core k)) (subst (HeldIn (sp (after ev s k).core)) g K.held_in)

      halted-kept : (after ev s k).halted ≡ true → Kept (suc k)
      unfolding handlers
      halted-kept h =
          let a : act ev s k ≡ acts.Stopped =
          ap (λ x. x.act) (plan-halted (due ev s k) (deliver-halted (after ev s k).count ev (after ev s k) ∙ h)) in
          let t : after ev s (suc k) ≡ after ev s k = run_step ev s k ∙ step-halted ev (after ev s k) h in
          let hn : handlers ev s (suc k) ≡ handlers ev s k = ap (λ x. handlers_after x (after ev s (suc k)) (handlers ev s k)) a in
          record {
            held_in = subst (λ x. HeldIn (sp x.core) (handlers ev s (suc k))) (sym t) (subst (HeldIn (sp (after ev s k).core)) (sym hn)
                K.held_in);
            nested = subst Nested (sym hn) K.nested;
          }

      module _ (live : (after ev s k).halted ≡ false) where
        abbrev Then : Act → List Handler → Type 0
        Then a hs =
            HeldIn (sp (after ev s (suc k)).core) (handlers_after a (after ev s (suc k)) hs) × Nested (handlers_after a (after ev s
            (suc k)) hs)

        works-kept : (a : Act) → act ev s k ≡ a → works? a ≡ true → (hs : List Handler) → handlers ev s k ≡ hs
            → HeldIn (sp (after ev s (suc k)).core) hs × Nested hs
        unfolding HeldIn
        works-kept a q w [] g = (tt, kept-nested [] g)
        works-kept a q w (h ∷ hs) g = (M.held k h hs l (ap works? q ∙ w) g, kept-nested (h ∷ hs) g)

        entered-kept : (u : ℕ) → Far (sp (after ev s (suc k)).core) (sp (after ev s (suc k)).core) u
        entered-kept u = M.measure.more _ _ (M.measure.self _ ((after-tidy (suc k)).core.words 6)) (omega arith)

        then : (a : Act) → act ev s k ≡ a → (fs : List Frame) → Calm a fs → (hs : List Handler) → handlers ev s k ≡ hs → Then a hs
        unfolding HeldIn Nested
        then acts.Stopped q fs c hs g =
            absurd (plan-moves (due ev s k) (deliver-halted (after ev s k).count ev (after ev s k) ∙ live) (faultless k l) q)
        then acts.Pull q fs c [] g = (tt, tt)
        then acts.Pull q fs c (h ∷ hs) g =
            let u = kept-nested (h ∷ hs) g in
            let e : wrap (h.left + 8) ≡ sp (after ev s (suc k)).core =
            sym (pulled-stack k l live q ∙ ap (λ x. wrap (x + 8)) (P.handed_back k h hs l (ap return? q) g)) in
            (subst (λ x. HeldIn x hs) e u.1, u.2)
        then (acts.Chain d) q fs c [] g = (tt, tt)
        then (acts.Chain d) q fs c (h ∷ hs) g =
            let u = kept-nested (h ∷ hs) g in
            let e : h.left ≡ sp (after ev s (suc k)).core = sym (chained-stack k l live d q ∙ P.handed_back k h hs l (ap return? q) g) in
            (entered-kept _, ((after-tidy (suc k)).core.words 6, subst (λ x. HeldIn (wrap (x + 8)) hs) e u.1, u.2))
        then (acts.Accept d) q fs c hs g =
            let x = sp (due ev s k).core in
            let small = (due-tidy k).core.words 6 in
            let e : sp (after ev s (suc k)).core ≡ down x 8 = (entry-saves k l live d q).stack in
            let b : x ≡ wrap (sp (after ev s (suc k)).core + 8) = sym (ap (λ y. wrap (y + 8)) e ∙ sp_back x small) in
            (entered-kept _, ((after-tidy (suc k)).core.words 6, subst (λ y. HeldIn y hs) b (kept-due hs g), kept-nested hs g))
        then acts.Sleep q fs c hs g = works-kept acts.Sleep q refl hs g
        then (acts.Fault v) q fs c hs g = absurd c
        then acts.Halt q fs c hs g = absurd c
        then acts.Skip q fs c hs g = works-kept acts.Skip q refl hs g
        then (acts.Trap v) q fs c hs g = absurd (no-trap k v l q)
        then acts.Plain q fs c hs g = works-kept acts.Plain q refl hs g
        then (acts.Loads byte a d) q fs c hs g = works-kept (acts.Loads byte a d) q refl hs g
        then (acts.Stores byte a v) q fs c hs g = works-kept (acts.Stores byte a v) q refl hs g

        live-kept : Kept (suc k)
        unfolding handlers
        live-kept =
            let x = then (act ev s k) refl (frames ev s k) (P.depth.calm k l) (handlers ev s k) refl in
            record { held_in = x.0; nested = x.1 }

    kept : (k : ℕ) → k ≤ n → Kept k
    unfolding handlers HeldIn Nested
    kept zero h = record { held_in = tt; nested = tt }
    kept (suc k) h =
        let K = kept k (omega arith) in
        bool_cases (after ev s k).halted (halted-kept k h K) (live-kept k h K)

    held-always : (k : ℕ) (h : Handler) (hs : List Handler) → k ≤ n → handlers ev s k ≡ h ∷ hs
        → Far h.left (sp (after ev s k).core) (use_of uses h.vector)
    unfolding HeldIn
    held-always k h hs l g = subst (HeldIn (sp (after ev s k).core)) g (kept k l).held_in

    -- where the application's SP was
    opened-first : (k : ℕ) → frames ev s k ≡ [] → opened ev s (suc k) ≡ sp (due ev s k).core
    unfolding opened
    opened-first k o = ap (λ l. cond (none? l) (sp (due ev s k).core) (opened ev s k)) o

    opened-kept : (k : ℕ) (f : Frame) (fs : List Frame) → frames ev s k ≡ f ∷ fs → opened ev s (suc k) ≡ opened ev s k
    unfolding opened
    opened-kept k f fs o = ap (λ l. cond (none? l) (sp (due ev s k).core) (opened ev s k)) o

    opened-word : (k : ℕ) → opened ev s k < 65536
    unfolding opened
    opened-word zero = tidy.core.words 6
    opened-word (suc k) =
        bool_cases (none? (frames ev s k)) (λ q. rw q ((due-tidy k).core.words 6)) (λ q. rw q (opened-word k))

    abbrev cost : List Handler → ℕ
    cost = costs vectors devices uses p

    -- each handler's entry left SP no further below the base than 8 and the cost of the handlers under it
    Placed : (base : ℕ) → List Handler → Type 0
    Placed base [] = Unit {0}
    Placed base (h ∷ hs) = (h.left < 65536) × Far base h.left (8 + cost hs) × Placed base hs

    -- the invariant
    record Holds (k : ℕ) : Type 0 where
      paired : Paired vectors devices uses p (frames ev s k) (handlers ev s k) (levels ev s k)
      placed : Placed (opened ev s k) (handlers ev s k)

    -- SP lies no further below than the handlers cost
    reach : (k : ℕ) → k ≤ n → Holds k → (h : Handler) (hs : List Handler) → handlers ev s k ≡ h ∷ hs
        → Far (opened ev s k) (sp (after ev s k).core) (cost (h ∷ hs))
    unfolding Placed costs
    reach k l H h hs o =
        let pl : Placed (opened ev s k) (h ∷ hs) = subst (Placed (opened ev s k)) o H.placed in
        M.measure.more _ _
        (M.measure.add (opened ev s k) h.left (sp (after ev s k).core) (opened-word k) pl.0 ((after-tidy k).core.words 6) pl.1
        (held-always k h hs l o)) (omega arith)

    module _ (k : ℕ) (H : Holds k) where
      paired_at : (fs : List Frame) (hs : List Handler) (ls : List ℕ) → frames ev s k ≡ fs → handlers ev s k ≡ hs → levels ev s k ≡ ls
          → Paired vectors devices uses p fs hs ls
      paired_at fs hs ls o g e =
          subst (Paired vectors devices uses p fs hs) e
          (subst (λ x. Paired vectors devices uses p fs x (levels ev s k)) g
          (subst (λ x. Paired vectors devices uses p x (handlers ev s k) (levels ev s k)) o H.paired))

      no-handler : (h : Handler) (hs : List Handler) → frames ev s k ≡ [] → handlers ev s k ≡ h ∷ hs → ⊥
      unfolding Paired
      no-handler h hs o g = paired_at [] (h ∷ hs) (levels ev s k) o g refl

      no-frame : (f : Frame) (fs : List Frame) → frames ev s k ≡ f ∷ fs → handlers ev s k ≡ [] → ⊥
      unfolding Paired
      no-frame f fs o g = paired_at (f ∷ fs) [] (levels ev s k) o g refl

    module _ (k : ℕ) (l : k < n) (H : Holds k) where
      placed_at : (hs : List Handler) → handlers ev s k ≡ hs → Placed (opened ev s k) hs
      placed_at hs g = subst (Placed (opened ev s k)) g H.placed

      -- the same handlers, one step later
      placed-kept : (fs : List Frame) → frames ev s k ≡ fs → (hs : List Handler) → handlers ev s k ≡ hs
          → Placed (opened ev s (suc k)) hs
      unfolding Placed
      placed-kept fs o [] g = tt
      placed-kept [] o (h ∷ hs) g = absurd (no-handler k H h hs o g)
      placed-kept (f ∷ fs) o (h ∷ hs) g =
          subst (λ b. Placed b (h ∷ hs)) (sym (opened-kept k f fs o)) (placed_at (h ∷ hs) g)

      -- a machine that is halted stays as it is, with its frames and handlers
      halted-holds : (after ev s k).halted ≡ true → Holds (suc k)
      unfolding frames handlers levels
      halted-holds h =
          let a : act ev s k ≡ acts.Stopped =
          ap (λ x. x.act) (plan-halted (due ev s k) (deliver-halted (after ev s k).count ev (after ev s k) ∙ h)) in
          let t = after ev s (suc k) in
          let hn : handlers ev s (suc k) ≡ handlers ev s k = ap (λ x. handlers_after x t (handlers ev s k)) a in
          record {
            paired = subst (λ x. Paired vectors devices uses p (frames_after x t (frames ev s k)) (handlers_after x t (handlers ev s k))
                (levels_after x (due ev s k).mem (levels ev s k))) (sym a) H.paired;
            placed = subst (Placed (opened ev s (suc k))) (sym hn)
                (placed-kept (frames ev s k) refl (handlers ev s k) refl);
          }

      module _ (live : (after ev s k).halted ≡ false) where
        -- SP before an entry lies no further below than the handlers cost
        before-entry : (fs : List Frame) (hs : List Handler) → frames ev s k ≡ fs → handlers ev s k ≡ hs
            → Far (opened ev s (suc k)) (sp (due ev s k).core) (cost hs)
        unfolding costs
        before-entry [] [] o g =
            subst (λ b. Far b (sp (due ev s k).core) 0) (sym (opened-first k o))
            (M.measure.self (sp (due ev s k).core) ((due-tidy k).core.words 6))
        before-entry [] (h ∷ hs) o g = absurd (no-handler k H h hs o g)
        before-entry (f ∷ fs) [] o g = absurd (no-frame k H f fs o g)
        before-entry (f ∷ fs) (h ∷ hs) o g =
            let c = reach k (omega arith) H h hs g in
            subst (λ b. Far b (sp (due ev s k).core) (cost (h ∷ hs))) (sym (opened-kept k f fs o))
            (subst (λ x. Far (opened ev s k) (sp x) (cost (h ∷ hs))) (sym (due-core k)) c)

        -- eight bytes more
        added : (x y : ℕ) (hs : List Handler) → x < 65536 → y < 65536 → Far (opened ev s (suc k)) x (cost hs) → Far x y 8
            → Far (opened ev s (suc k)) y (8 + cost hs)
        added x y hs hx hy a b =
            M.measure.more _ _ (M.measure.add (opened ev s (suc k)) x y (opened-word (suc k)) hx hy a b) (omega arith)

        accepted-placed : (d : ℕ) → act ev s k ≡ acts.Accept d → (fs : List Frame) (hs : List Handler)
            → frames ev s k ≡ fs → handlers ev s k ≡ hs
            → Placed (opened ev s (suc k)) (record { vector = d; left = sp (after ev s (suc k)).core } ∷ hs)
        unfolding Placed
        accepted-placed d q fs hs o g =
            let x = sp (due ev s k).core in
            let small = (due-tidy k).core.words 6 in
            let e : sp (after ev s (suc k)).core ≡ down x 8 = (entry-saves k l live d q).stack in
            let w : down x 8 < 65536 = omega arith in (
              (after-tidy (suc k)).core.words 6,
              subst (λ y. Far (opened ev s (suc k)) y (8 + cost hs)) (sym e)
                  (added x (down x 8) hs small w (before-entry fs hs o g) (M.entry k d l q)),
              placed-kept fs o hs g,
            )

        -- a chained entry
        chained-placed : (d : ℕ) → act ev s k ≡ acts.Chain d → (fs : List Frame) (h : Handler) (hs : List Handler)
            → frames ev s k ≡ fs → handlers ev s k ≡ h ∷ hs
            → Placed (opened ev s (suc k)) (record { vector = d; left = sp (after ev s (suc k)).core } ∷ hs)
        unfolding Placed
        chained-placed d q fs h hs o g =
            let old : Placed (opened ev s (suc k)) (h ∷ hs) = placed-kept fs o (h ∷ hs) g in
            let e : h.left ≡ sp (after ev s (suc k)).core =
            sym (chained-stack k l live d q ∙ P.handed_back k h hs l (ap return? q) g) in (
              (after-tidy (suc k)).core.words 6,
              subst (λ y. Far (opened ev s (suc k)) y (8 + cost hs)) e old.1,
              old.2,
            )

        -- the invariant after the step, by its act
        abbrev PairedAfter : Act → List Frame → List Handler → List ℕ → Type 0
        PairedAfter a fs hs ls =
            Paired vectors devices uses p (frames_after a (after ev s (suc k)) fs) (handlers_after a (after ev s (suc k)) hs)
            (levels_after a (due ev s k).mem ls)

        next-paired : (a : Act) → act ev s k ≡ a → (fs : List Frame) (hs : List Handler) (ls : List ℕ) → Calm a fs
            → Paired vectors devices uses p fs hs ls → PairedAfter a fs hs ls
        unfolding Paired
        next-paired acts.Stopped q fs hs ls c h = h
        next-paired acts.Pull q [] hs ls c h = absurd (true≢false c)
        next-paired acts.Pull q (f ∷ fs) [] ls c h = absurd h
        next-paired acts.Pull q (f ∷ fs) (g ∷ hs) [] c h = absurd h
        next-paired acts.Pull q (f ∷ fs) (g ∷ hs) (v ∷ ls) c h = h.3
        next-paired (acts.Chain d) q [] hs ls c h = absurd (true≢false c)
        next-paired (acts.Chain d) q (f ∷ fs) [] ls c h = absurd h
        next-paired (acts.Chain d) q (f ∷ fs) (g ∷ hs) [] c h = absurd h
        next-paired (acts.Chain d) q (f ∷ fs) (g ∷ hs) (v ∷ ls) c h =
            (level-is k d (omega arith) (chained-device k d q), chained-device k d q, P.only_given k d l (inr q), h.3)
        next-paired (acts.Accept d) q fs hs ls c h =
            (level-is k d (omega arith) (device k d q), device k d q, P.only_given k d l (inl q), h)
        next-paired acts.Sleep q fs hs ls c h = h
        next-paired (acts.Fault v) q fs hs ls c h = absurd c
        next-paired acts.Halt q fs hs ls c h = absurd c
        next-paired acts.Skip q fs hs ls c h = h
        next-paired (acts.Trap v) q fs hs ls c h = absurd (no-trap k v l q)
        next-paired acts.Plain q fs hs ls c h = h
        next-paired (acts.Loads byte a d) q fs hs ls c h = h
        next-paired (acts.Stores byte a v) q fs hs ls c h = h

        next-placed : (a : Act) → act ev s k ≡ a → (fs : List Frame) (hs : List Handler) → frames ev s k ≡ fs → handlers ev s k ≡ hs
            → Calm a fs → Placed (opened ev s (suc k)) (handlers_after a (after ev s (suc k)) hs)
        unfolding Placed
        next-placed acts.Stopped q fs hs o g c = placed-kept fs o hs g
        next-placed acts.Pull q fs [] o g c = tt
        next-placed acts.Pull q fs (h ∷ hs) o g c = (placed-kept fs o (h ∷ hs) g).2
        next-placed (acts.Chain d) q fs [] o g c = tt
        next-placed (acts.Chain d) q fs (h ∷ hs) o g c = chained-placed d q fs h hs o g
        next-placed (acts.Accept d) q fs hs o g c = accepted-placed d q fs hs o g
        next-placed acts.Sleep q fs hs o g c = placed-kept fs o hs g
        next-placed (acts.Fault v) q fs hs o g c = absurd c
        next-placed acts.Halt q fs hs o g c = absurd c
        next-placed acts.Skip q fs hs o g c = placed-kept fs o hs g
        next-placed (acts.Trap v) q fs hs o g c = absurd (no-trap k v l q)
        next-placed acts.Plain q fs hs o g c = placed-kept fs o hs g
        next-placed (acts.Loads byte a d) q fs hs o g c = placed-kept fs o hs g
        next-placed (acts.Stores byte a v) q fs hs o g c = placed-kept fs o hs g

        live-holds : Holds (suc k)
        unfolding frames handlers levels
        live-holds =
            record {
              paired = next-paired (act ev s k) refl (frames ev s k) (handlers ev s k) (levels ev s k) (P.depth.calm k l) H.paired;
              placed = next-placed (act ev s k) refl (frames ev s k) (handlers ev s k) refl refl (P.depth.calm k l);
            }

        -- the bytes that an entry pushes
        pushed-within : (d a : ℕ) → act ev s k ≡ acts.Accept d → writes? (outcome_of (due ev s k)).writes a ≡ true
            → Far (opened ev s (suc k)) a (8 + cost (handlers ev s k))
        pushed-within d a q w =
            let x = sp (due ev s k).core in
            let small = (due-tidy k).core.words 6 in
            let by : Pushed (due ev s k).core a =
            perform-writes (acts.Accept d) (due ev s k).core (due ev s k).lines (due ev s k).mem a (due-tidy k).core
            (subst (λ y. writes? y.writes a ≡ true) (outcome-is k l live (acts.Accept d) q (λ h. h)) w) in
            subst (λ y. Far (opened ev s (suc k)) y (8 + cost (handlers ev s k))) (sym by.1.1)
            (added x (wrap (even (down x 8) + by.0)) (handlers ev s k) small (omega arith)
            (before-entry (frames ev s k) (handlers ev s k) refl refl) (M.pushed k d by.0 l q by.1.0))

    holds : (k : ℕ) → k ≤ n → Holds k
    unfolding frames handlers levels Paired Placed
    holds zero h = record { paired = tt; placed = tt }
    holds (suc k) h =
        let d = holds k (omega arith) in
        bool_cases (after ev s k).halted (halted-holds k h d) (live-holds k h d)

    cost-within : (k : ℕ) → k ≤ n → cost (handlers ev s k) ≤ need_of vectors devices uses p
    cost-within k h =
        let up = rising-lower vectors devices uses p (lowest ev s n) P.not_below (levels ev s k)
        (priorities-rise memory r events n P.depth k h) in
        let a = rising-costs vectors devices uses p (frames ev s k) (handlers ev s k) (levels ev s k) (holds k h).paired up in
        let b = need-is vectors devices uses p in
        omega arith

    stack_at : (k : ℕ) → (h : k ≤ n) → (fs : List Frame) (hs : List Handler) → frames ev s k ≡ fs → handlers ev s k ≡ hs → none? fs ≡ false
        → Far (opened ev s k) (sp (after ev s k).core) (need_of vectors devices uses p)
    stack_at k h [] hs o g e = absurd (true≢false e)
    stack_at k h (f ∷ fs) [] o g e = absurd (no-frame k (holds k h) f fs o g)
    stack_at k h (f ∷ fs) (a ∷ hs) o g e =
        M.measure.more _ _ (reach k h (holds k h) a hs g) (subst (λ x. cost x ≤ need_of vectors devices uses p) g (cost-within k h))

    entry-costs : (k d : ℕ) → act ev s k ≡ acts.Accept d → 8 + cost (handlers ev s k) ≤ cost (handlers ev s (suc k))
    unfolding handlers costs
    entry-costs k d q =
        subst (λ a. 8 + cost (handlers ev s k) ≤ cost (handlers_after a (after ev s (suc k)) (handlers ev s k))) (sym q) (omega arith)

    accepts-live : (k d : ℕ) → act ev s k ≡ acts.Accept d → (after ev s k).halted ≡ false
    accepts-live k d q =
        bool_cases (after ev s k).halted
        (λ h. absurd (not_stopped d (sym q
        ∙ ap (λ x. x.act) (plan-halted (due ev s k) (deliver-halted (after ev s k).count ev (after ev s k) ∙ h)))))
        (λ h. h)

    push_at : (k d a : ℕ) → k < n → act ev s k ≡ acts.Accept d → writes? (outcome_of (due ev s k)).writes a ≡ true
        → Far (opened ev s (suc k)) a (need_of vectors devices uses p)
    push_at k d a h q w =
        let c = entry-costs k d q in
        let e = cost-within (suc k) h in
        M.measure.more _ _ (pushed-within k h (holds k (omega arith)) (accepts-live k d q) d a q w) (omega arith)

-- ---- the two theorems

module _ (memory r events vectors : List ℕ) (devices : ℕ) (uses : List ℕ) (p n : ℕ) where
  due-word : RunPremises memory r events vectors devices uses p n → (k : ℕ)
      → sp (due (events_of events) (state_in r memory) k).core < 65536
  due-word R k = (due-tidy memory r events vectors devices uses p n R k).core.words 6

  by-wrapping : (P : StackPremises memory r events vectors devices uses p n)
      → Measured memory r events vectors devices uses p n P.run Wrapping
  by-wrapping P =
      record {
        measure = wrapping;
        held = P.held;
        entry = λ k d l q. below-eight _ (due-word P.run k);
        pushed = λ k d i l q h. below-pushed _ i (due-word P.run k) (P.run.even_entry k d l q) h;
      }

  pub within : StackPremises memory r events vectors devices uses p n → Within memory r events vectors devices uses p n
  within P =
      record {
        stack = λ k h e. stack_at memory r events vectors devices uses p n P.run Wrapping (by-wrapping P) k h _ _ refl refl e;
        pushes = push_at memory r events vectors devices uses p n P.run Wrapping (by-wrapping P);
      }

  by-numbers : (P : PlainPremises memory r events vectors devices uses p n)
      → Measured memory r events vectors devices uses p n P.run Plainly
  by-numbers P =
      record {
        measure = plainly;
        held = P.held_plainly;
        entry = λ k d l q. plain-eight _ (due-word P.run k);
        pushed = λ k d i l q h. plain-pushed _ i (due-word P.run k) (P.run.even_entry k d l q) h;
      }

  pub plain-within : PlainPremises memory r events vectors devices uses p n → PlainWithin memory r events vectors devices uses p n
  plain-within P =
      record {
        stack = λ k h e. stack_at memory r events vectors devices uses p n P.run Plainly (by-numbers P) k h _ _ refl refl e;
        pushes = push_at memory r events vectors devices uses p n P.run Plainly (by-numbers P);
      }
