-- What one step adds to a trace: a machine that is not halted has a plan with an act of a kind from 1 to 11, by cases of the plan; so
-- with all kinds there is one act; a filter goes record by record; and nothing is added where nothing asked for happens. Assumes nothing.
use Prim.Native.Nat.{ℕ, ◌<◌}
use native.Mathlib.Omega.{arith}
use mathlib.Core.Bool.{true, false, cond, true≢false}
use mathlib.Core.List.{List, [], ◌∷◌, ◌++◌}
use mathlib.Core.Path.{◌≡◌, refl, sym, ap, ◌∙◌}
use lib.Dec.{eqb, ltb}
use Rattle.word.specs.Psw.{bit_of, faulted?, current}
use Rattle.machine.specs.declared.Access.{Access}
use Rattle.machine.specs.declared.Access.TheVariants as access
use Rattle.machine.specs.declared.Act.{Act}
use Rattle.machine.specs.declared.Act.TheVariants as act
use Rattle.machine.specs.State.{Core, State}
use Rattle.machine.specs.Events.{Event}
use Rattle.machine.specs.Devices.{event_on, deliver}
use Rattle.machine.specs.Entry.{priority}
use Rattle.machine.specs.Step.{advanced, faulting, allowed, granted, plan_of, step_of}
use Rattle.machine.specs.Uneventful.{uneventful?, next_act}
use Rattle.machine_laws.specs.Bounds.{Each}
use Rattle.machine_laws.proofs.Cases.{bool_cases, not-eq}
use Rattle.machine_laws.proofs.Plans.{plan-cases, instruction-cases, granted-cases}
use Rattle.machine_laws.proofs.Steps.{deliver-halted}
use Rattle.trace.specs.Trace.{Entry, event_entry, events_traced, kind_of, act_entry, step_traced, asked, traced_of}
use Rattle.trace.specs.Kinds.{all_kinds, act_kinds, Fewer, Sparse, NoneOf}

-- ---- a step has an act

-- an act that a step has
abbrev pub Acts : Act → Type 0
Acts a = (kind_of a < 12) × (0 < kind_of a)

acts-fault : (b c : Core) (v : ℕ) → Acts (faulting b c v).act
acts-fault b c v = bool_cases (faulted? b.psw) (λ q. rw q (omega arith, omega arith)) (λ q. rw q (omega arith, omega arith))

acts-allowed : (c x : Core) (a : Access) (m : List ℕ) → Acts (allowed c x a m).act
acts-allowed c x access.Nothing m = (omega arith, omega arith)
acts-allowed c x (access.Load byte a d) m = (omega arith, omega arith)
acts-allowed c x (access.Store byte a v) m = (omega arith, omega arith)
acts-allowed c x (access.Fault v) m = acts-fault c (advanced c) v
acts-allowed c x (access.Trap v) m =
    bool_cases (ltb (current c.psw) (priority m v))
    (λ q. rw q (omega arith, omega arith))
    (λ q. rw q (acts-fault c (advanced c) 10))

acts-granted : (c x : Core) (a : Access) (m : List ℕ) → Acts (granted c x a m).act
acts-granted c x a m =
    granted-cases c x a m (λ p. Acts p.act) (λ o. acts-fault c (advanced c) 9) (λ o. acts-allowed c x a m)

-- the plan of a machine that is not halted
pub plan-acts : (s : State) → s.halted ≡ false → Acts (plan_of s).act
plan-acts s h =
    plan-cases s (λ p. Acts p.act)
    (λ q. absurd (true≢false (sym q ∙ h)))
    (λ q e. (omega arith, omega arith))
    (λ d q e. (omega arith, omega arith))
    (λ d q e. (omega arith, omega arith))
    (λ q e.
    instruction-cases s.core s.mem (λ p. Acts p.act)
    (λ q. (omega arith, omega arith))
    (λ q r. acts-fault s.core s.core 9)
    (λ q r t. (omega arith, omega arith))
    (λ q r t. acts-granted s.core _ _ s.mem))

pub next-acts : (ev : List Event) (s : State) → s.halted ≡ false → Acts (next_act ev s)
next-acts ev s h = plan-acts (deliver ev s) (deliver-halted s.count ev s ∙ h)

-- ---- filters

pub asked-append : (ks : ℕ) (xs ys : List Entry) → asked ks (xs ++ ys) ≡ asked ks xs ++ asked ks ys
unfolding asked
asked-append ks [] ys = refl
asked-append ks (x ∷ xs) ys =
    bool_cases (bit_of x.kind ks)
    (λ q. rw q (ap (λ zs. x ∷ zs) (asked-append ks xs ys)))
    (λ q. rw q (asked-append ks xs ys))

-- every record is of a kind
abbrev pub Kinds : List Entry → Type 0
Kinds xs = Each (λ (x : Entry). x.kind < 12) xs

-- the records of a smaller set are among those of a larger one
pub asked-fewer : (a b : ℕ) (xs : List Entry) → Fewer a b → Kinds xs → asked a (asked b xs) ≡ asked a xs
unfolding asked
asked-fewer a b [] f h = refl
asked-fewer a b (x ∷ xs) f h =
    let e = asked-fewer a b xs f h.1 in
    bool_cases (bit_of x.kind b)
    (λ q. ap (λ c. asked a (cond c (x ∷ asked b xs) (asked b xs))) q
    ∙ ap (λ zs. cond (bit_of x.kind a) (x ∷ zs) zs) e)
    (λ q. ap (λ c. asked a (cond c (x ∷ asked b xs) (asked b xs))) q
    ∙ e
    ∙ bool_cases (bit_of x.kind a)
    (λ p. absurd (true≢false (sym (f x.kind h.0 p) ∙ q)))
    (λ p. sym (ap (λ c. cond c (x ∷ asked a xs) (asked a xs)) p)))

-- ---- the records of one step

-- those of its events are of kind 0
events-kinds : (s : State) (k : ℕ) (ev : List Event) (t : State) → Kinds (events_traced s k ev t)
unfolding events_traced
events-kinds s k [] t = tt
events-kinds s k (e ∷ es) t =
    bool_cases (eqb e.step k)
    (λ q. rw q (omega arith, events-kinds s k es (event_on e t)))
    (λ q. rw q (events-kinds s k es t))

events-asked : (ks : ℕ) → bit_of 0 ks ≡ false → (s : State) (k : ℕ) (ev : List Event) (t : State) → asked ks (events_traced s k ev t) ≡ []
unfolding events_traced asked
events-asked ks z s k [] t = refl
events-asked ks z s k (e ∷ es) t =
    bool_cases (eqb e.step k)
    (λ q. rw (q, z) (events-asked ks z s k es (event_on e t)))
    (λ q. rw q (events-asked ks z s k es t))

-- all of those of its events are asked for, or none
pub events-whole : (ks : ℕ) (s : State) (k : ℕ) (ev : List Event) (t : State)
    → asked ks (events_traced s k ev t) ≡ cond (bit_of 0 ks) (events_traced s k ev t) []
unfolding events_traced asked
events-whole ks s k [] t = bool_cases (bit_of 0 ks) (λ q. rw q refl) (λ q. rw q refl)
events-whole ks s k (e ∷ es) t =
    bool_cases (bit_of 0 ks)
    (λ z. bool_cases (eqb e.step k)
    (λ q. rw (q, z) (ap (λ xs. event_entry s t e ∷ xs) (events-whole ks s k es (event_on e t) ∙ ap (λ c. cond c (events_traced s k es
    (event_on e t)) []) z)))
    (λ q. rw (q, z) (events-whole ks s k es t ∙ ap (λ c. cond c (events_traced s k es t) []) z)))
    (λ z. bool_cases (eqb e.step k)
    (λ q. rw (q, z) (events-whole ks s k es (event_on e t) ∙ ap (λ c. cond c (events_traced s k es (event_on e t)) []) z))
    (λ q. rw (q, z) (events-whole ks s k es t ∙ ap (λ c. cond c (events_traced s k es t) []) z)))

-- none where no event is due
pub events-none : (s : State) (k : ℕ) (ev : List Event) (t : State) → NoneOf ev k → events_traced s k ev t ≡ []
unfolding events_traced
events-none s k [] t f = refl
events-none s k (e ∷ es) t f = rw (not-eq f.0) (events-none s k es t f.1)

kinds-append : (xs ys : List Entry) → Kinds xs → Kinds ys → Kinds (xs ++ ys)
kinds-append [] ys f g = g
kinds-append (x ∷ xs) ys f g = (f.0, kinds-append xs ys f.1 g)

module _ (ev : List Event) (s : State) where
  -- the record of its act
  abbrev pub act_of : Entry
  act_of = act_entry s (next_act ev s) (deliver ev s).mem (step_of ev s).core

  pub step-kinds : s.halted ≡ false → Kinds (step_traced ev s)
  unfolding step_traced
  step-kinds h = kinds-append (events_traced s s.count ev s) (act_of ∷ []) (events-kinds s s.count ev s) ((next-acts ev s h).0, tt)

  -- what a step adds, by its events and its act
  pub traced-parts : (ks : ℕ) → traced_of ks ev s
      ≡ cond (bit_of 0 ks) (events_traced s s.count ev s) [] ++ cond (bit_of (kind_of (next_act ev s)) ks) (act_of ∷ []) []
  unfolding traced_of step_traced asked
  traced-parts ks =
      asked-append ks (events_traced s s.count ev s) (act_of ∷ [])
      ∙ ap (λ xs. xs ++ asked ks (act_of ∷ [])) (events-whole ks s s.count ev s)

  -- a set of kinds without 0, that of the act among them or not
  acts-asked : (ks : ℕ) → bit_of 0 ks ≡ false → asked ks (step_traced ev s) ≡ cond (bit_of (kind_of (next_act ev s)) ks) (act_of ∷ []) []
  unfolding step_traced asked
  acts-asked ks z =
      asked-append ks (events_traced s s.count ev s) (act_of ∷ [])
      ∙ ap (λ xs. xs ++ asked ks (act_of ∷ [])) (events-asked ks z s s.count ev s)

  -- a smaller set's records are the filter of a larger one's
  pub traced-fewer : (a b : ℕ) → Fewer a b → s.halted ≡ false → traced_of a ev s ≡ asked a (traced_of b ev s)
  unfolding traced_of
  traced-fewer a b f h = sym (asked-fewer a b (step_traced ev s) f (step-kinds h))

all-kind : (a : Act) → Acts a → (bit_of (kind_of a) all_kinds ≡ true) × (bit_of (kind_of a) act_kinds ≡ true)
all-kind act.Stopped h = absurd (let l = h.0 in omega arith)
all-kind act.Pull h = (refl, refl)
all-kind (act.Chain d) h = (refl, refl)
all-kind (act.Accept d) h = (refl, refl)
all-kind act.Sleep h = (refl, refl)
all-kind (act.Fault v) h = (refl, refl)
all-kind act.Halt h = (refl, refl)
all-kind act.Skip h = (refl, refl)
all-kind (act.Trap v) h = (refl, refl)
all-kind act.Plain h = (refl, refl)
all-kind (act.Loads byte a d) h = (refl, refl)
all-kind (act.Stores byte a v) h = (refl, refl)

events-all : (s : State) (k : ℕ) (ev : List Event) (t : State) → asked all_kinds (events_traced s k ev t) ≡ events_traced s k ev t
unfolding events_traced asked
events-all s k [] t = refl
events-all s k (e ∷ es) t =
    bool_cases (eqb e.step k)
    (λ q. rw q (ap (λ xs. event_entry s t e ∷ xs) (events-all s k es (event_on e t))))
    (λ q. rw q (events-all s k es t))

module _ (ev : List Event) (s : State) (live : s.halted ≡ false) where
  -- with all kinds asked for nothing is left out
  pub traced-all : traced_of all_kinds ev s ≡ step_traced ev s
  unfolding traced_of step_traced asked
  traced-all =
      asked-append all_kinds (events_traced s s.count ev s) (act_of ev s ∷ [])
      ∙ (λ i. events-all s s.count ev s i
      ++ cond ((all-kind (next_act ev s) (next-acts ev s live)).0 i) (act_of ev s ∷ []) [])

  -- and exactly one record is an act's
  pub traced-act : asked act_kinds (traced_of all_kinds ev s) ≡ act_of ev s ∷ []
  traced-act =
      ap (asked act_kinds) traced-all
      ∙ acts-asked ev s act_kinds refl
      ∙ ap (λ b. cond b (act_of ev s ∷ []) []) (all-kind (next_act ev s) (next-acts ev s live)).1

-- ---- a step of which nothing that is asked for is to be told

uneventful-kind : (ks : ℕ) → Sparse ks → (a : Act) → uneventful? a ≡ true → bit_of (kind_of a) ks ≡ false
uneventful-kind ks f act.Stopped h = absurd (true≢false (sym h))
uneventful-kind ks f act.Pull h = absurd (true≢false (sym h))
uneventful-kind ks f (act.Chain d) h = absurd (true≢false (sym h))
uneventful-kind ks f (act.Accept d) h = absurd (true≢false (sym h))
uneventful-kind ks f act.Sleep h = f.sleep
uneventful-kind ks f (act.Fault v) h = absurd (true≢false (sym h))
uneventful-kind ks f act.Halt h = absurd (true≢false (sym h))
uneventful-kind ks f act.Skip h = f.skip
uneventful-kind ks f (act.Trap v) h = absurd (true≢false (sym h))
uneventful-kind ks f act.Plain h = f.plain
uneventful-kind ks f (act.Loads byte a d) h = f.load
uneventful-kind ks f (act.Stores byte a v) h = f.store

pub uneventful-traced : (ks : ℕ) (ev : List Event) (s : State) → Sparse ks → NoneOf ev s.count → uneventful? (next_act ev s) ≡ true
    → traced_of ks ev s ≡ []
unfolding traced_of step_traced asked
uneventful-traced ks ev s f g h =
    ap (λ xs. asked ks (xs ++ act_of ev s ∷ [])) (events-none s s.count ev s g)
    ∙ ap (λ b. cond b (act_of ev s ∷ []) []) (uneventful-kind ks f (next_act ev s) h)
