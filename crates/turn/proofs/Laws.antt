-- The event awaited as steps go, turns begun and not begun, events of a step taken back, a stretch as steps of the run, and what an
-- accepted start says of its events. Assumes nothing.
use Prim.Native.Nat.{ℕ, zero, suc, ◌+◌, ◌-◌, ◌<◌, ◌≤◌}
use mathlib.Core.Bool.{Bool, true, false, cond, not, ◌&&◌, ◌||◌, true≢false}
use mathlib.Core.List.{List}
use mathlib.Core.Path.{◌≡◌, refl, sym, ap, subst, ◌∙◌}
use native.Mathlib.Omega.{arith}
use lib.Dec.{eqb, ltb}
use lib.ListN.{length, take}
use lib.Seq.{sets}
use borrow.Author.Tests.{lt-ltb}
use Rattle.machine.specs.declared.Machine.{Machine}
use Rattle.machine.specs.declared.Rest.{Rest}
use Rattle.machine.specs.State.{State, core_of, state_of, state_with}
use Rattle.machine.specs.Record.{four_at, state_in}
use Rattle.machine.specs.Events.{Event, event_at, events_from, event_count, events_of}
use Rattle.machine.specs.Devices.{deliver}
use Rattle.machine.specs.Run.{ran, run_of}
use Rattle.machine.specs.Refusal.{event_fits, events_fit_below, in_order, in_order_below}
use Rattle.machine_laws.specs.Bounds.{Each}
use Rattle.machine_laws.specs.Passed.{Passed}
use Rattle.machine_laws.proofs.Cases.{bool_cases, is_eq, is_lt, is_le, lt_of, ge-of, and_left, and_right, and_both}
use Rattle.machine_laws.proofs.Runs.{run-zero}
use Rattle.run_laws.proofs.Turns.{OfDevice, given_back}
use Rattle.devices.specs.Cursor.{Behind, Ordered}
use Rattle.devices.proofs.Laws.{behind-later, index-none-due, device-lt}
use Rattle.stretch.specs.declared.Progress.{Progress}
use Rattle.stretch.specs.Stretch.{Undisturbed, Passes}
use Rattle.turn.specs.Due.{due_of, Awaits}

-- ---- the event awaited

-- the step of a record that there is
pub due_in_lem : (b : List ℕ) (k : ℕ) → k < event_count b → due_of b k ≡ (event_at b k).step
unfolding due_of
due_in_lem b k h = rw (lt-ltb k (event_count b) h)

-- no record is behind before the first
pub behind-none : (b : List ℕ) (k : ℕ) → Behind b 0 k
behind-none b k = (omega arith, λ j h. absurd (omega arith))

-- the record awaited, as it is looked up
pub awaits-from : (b : List ℕ) (i next due k : ℕ) → Behind b i k → (next ≡ i) × (due ≡ due_of b i) → Awaits b next due k
awaits-from b i next due k h e = (subst (λ j. Behind b j k) (sym e.0) h, e.1 ∙ ap (due_of b) (sym e.0))

module _ (b : List ℕ) (next due k : ℕ) (a : Awaits b next due k) where
  pub awaits-later : (j : ℕ) → k ≤ j → Awaits b next due j
  awaits-later j h = (behind-later b next k j h a.0, a.1)

  -- before the step of the next record no event is due
  pub undisturbed : Ordered b → Undisturbed (events_of b) k due
  undisturbed o j h l s =
      index-none-due b j next s o (awaits-later j h).0 (λ q. let e : due ≡ (event_at b next).step = a.1
      ∙ due_in_lem b next q in omega arith)

-- the devices of a list that rule 6 accepts
from-devices : (b : List ℕ) (n k : ℕ) → ((j : ℕ) → j < k + n → OfDevice (event_at b j)) → Each OfDevice (events_from b k n)
unfolding events_from
from-devices b zero k h = tt
from-devices b (suc n) k h = (h k (omega arith), from-devices b n (suc k) (λ j l. h j (omega arith)))

pub of-devices : (b : List ℕ) → events_fit_below b (event_count b) ≡ true → Each OfDevice (events_of b)
unfolding event_at
of-devices b f = from-devices b (event_count b) 0 (λ j h. device-lt b (event_count b) j f (omega arith))

-- ---- turns

-- a turn is begun: the machine is not halted, and there are steps to do
pub goes_on : (h : Bool) (k n : ℕ) → (ltb k n && not h) ≡ true → (h ≡ false) × (k < n)
goes_on true k n e = absurd (true≢false (sym (and_right (ltb k n) false e)))
goes_on false k n e = (refl, lt_of (and_left (ltb k n) true e))

-- none is begun: the machine is halted, or all steps are done
pub all_done : (h : Bool) (k n : ℕ) → k ≤ n → (ltb k n && not h) ≡ false → (h || eqb k n) ≡ true
all_done true k n l e = refl
all_done false k n l e =
    bool_cases (ltb k n)
    (λ q. absurd (true≢false (sym (and_both q refl) ∙ e)))
    (λ q. let m : n ≤ k = ge-of q in is_eq {m = k} {n = n} (omega arith))

-- ---- a step given up

-- The device bytes kept, where an event was due, give back the memory before the events of the step.
pub restored : (b : List ℕ) (next due : ℕ) (s : State) → Awaits b next due s.count → Ordered b
    → events_fit_below b (event_count b) ≡ true → 16 ≤ length s.mem
    → (wanted : Bool) → (wanted ≡ false → s.count < due)
    → (kept m : List ℕ) → (wanted ≡ true → kept ≡ take 16 s.mem) → m ≡ (deliver (events_of b) s).mem
    → cond wanted (sets m 0 kept) m ≡ s.mem
restored b next due s a o f l wanted ew kept m ek em =
    bool_cases wanted
    (λ y.
    ap (λ c. cond c (sets m 0 kept) m) y
    ∙ (λ i. sets (em i) 0 (ek y i))
    ∙ given_back (events_of b) s (of-devices b f) l)
    (λ y.
    let late : s.count < due = ew y in
    ap (λ c. cond c (sets m 0 kept) m) y
    ∙ em
    ∙ ap (λ t. t.mem) (undisturbed b next due s.count a o s.count (omega arith) late s))

-- ---- a stretch

-- none is done by a machine that is halted
pub halts-none : (lent halted : Bool) (u : ℕ) → (lent || halted ≡ true → u ≡ 0) → halted ≡ true → u ≡ 0
halts-none true halted u none h = none refl
halts-none false halted u none h = none h

-- a machine with the count n, taken apart
abbrev machine : List ℕ → (psw cex l : ℕ) → Bool → (n : ℕ) → List ℕ → State
machine regs psw cex l h n m = record { core = core_of regs psw cex; lines = l; halted = h; count = n; mem = m }

-- What a stretch of at most u steps from a machine taken apart answers, no event being due in them and none being done if it is
-- halted: its steps are steps of the run, all uneventful.
module _
    (ev : List Event) (regs : List ℕ) (t : Rest) (mem regs' : List ℕ) (p : Progress) (mem' : List ℕ) (u due : ℕ)
    (none : t.halted ≡ true → u ≡ 0) (undue : Undisturbed ev t.count due) (few : u ≤ due - t.count)
    (passes : (es : List Event) (k : ℕ) → Undisturbed es k (k + u)
    → Passes es (machine regs t.psw t.cex t.lines false k mem)
    (machine regs' p.psw p.cex t.lines false (k + (u - p.left)) mem') (u - p.left))
    (v : Rest)
    (on : v ≡ record { psw = p.psw; cex = p.cex; lines = t.lines; halted = t.halted; count = t.count + (u - p.left) }) where
  abbrev done : ℕ
  done = u - p.left

  abbrev before : Bool → State
  before h = machine regs t.psw t.cex t.lines h t.count mem

  abbrev after : Bool → State
  after h = machine regs' p.psw p.cex t.lines h (t.count + done) mem'

  passed : Passes ev (before false) (after false) done
  passed = passes ev t.count (λ k h l s. undue k h (omega arith) s)

  -- none from a halted machine: nothing has changed
  stood : t.halted ≡ true → Passes ev (before t.halted) (after t.halted) done
  stood h =
      let z : done ≡ 0 = let e = none h in omega arith in
      let same : after false ≡ before false =
      ap (λ r. r.state) (passed.0 ∙ ap (run_of ev (before false)) z ∙ run-zero ev (before false)) in
      let same' : after t.halted ≡ before t.halted =
      ap (λ s. record { core = s.core; lines = s.lines; halted = t.halted; count = s.count; mem = s.mem }) same in (
        (λ i. ran (same' i) (z i)) ∙ sym (run-zero ev (before t.halted)) ∙ ap (run_of ev (before t.halted)) (sym z),
        λ i l. absurd (omega arith),
      )

  pub stretch-passes : Passes ev (state_with regs t mem) (state_with regs' v mem') done
  stretch-passes =
      subst (λ w. Passes ev (state_with regs t mem) (state_with regs' w mem') done) (sym on)
      (bool_cases t.halted
      stood
      (λ q. subst (λ h. Passes ev (before h) (after h) done) (sym q) passed))

-- ---- what an accepted run asks of its events

fits_below : (b : List ℕ) (n : ℕ) → ((k : ℕ) → k < n → event_fits b k ≡ true) → events_fit_below b n ≡ true
unfolding events_fit_below
fits_below b zero h = refl
fits_below b (suc n) h = and_both (fits_below b n (λ k l. h k (omega arith))) (h n (omega arith))

ordered-below : (b : List ℕ) (n : ℕ) → ((k : ℕ) → suc k < n → in_order b k ≡ true) → in_order_below b n ≡ true
unfolding in_order_below
ordered-below b zero h = refl
ordered-below b (suc zero) h = refl
ordered-below b (suc (suc n)) h = and_both (ordered-below b (suc n) (λ k l. h k (omega arith))) (h n (omega arith))

module _ (memory r events : List ℕ) (n : ℕ) (p : Passed memory r events n) where
  pub events-fit : events_fit_below events (event_count events) ≡ true
  unfolding event_fits event_at
  events-fit = fits_below events (event_count events) (λ k h. and_both (is_lt (p.devices k h)) (is_eq (p.event_zeros k h)))

  pub events-ordered : Ordered events
  unfolding in_order
  events-ordered = ordered-below events (event_count events) (λ k h. is_le (p.in_order k (suc k) (omega arith) h))

  pub count_fits : (m : Machine) → ((mem : List ℕ) → state_of m mem ≡ state_in r mem) → m.rest.count + n ≤ 4294967295
  unfolding state_in
  count_fits m e =
      let k : m.rest.count ≡ four_at r 22 = ap (λ (s : State). s.count) (e memory) in
      let l : four_at r 22 + n ≤ 4294967295 = p.count_fits in
      rw k l
