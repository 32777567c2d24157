-- What the code writes for a step is what the step adds: the code looks at the devices as they were before the step's events, which is
-- the same in a list without twins, and at the act before it is performed. Assumes nothing.
use Prim.Native.Nat.{ℕ, ◌+◌, ◌*◌, ◌<◌, ◌≤◌}
use native.Mathlib.Omega.{arith}
use mathlib.Core.Bool.{Bool, true, false, cond, ◌&&◌}
use mir.Val.{bool_byte}
use mathlib.Core.List.{List, [], ◌∷◌, ◌++◌}
use mathlib.Core.Path.{◌≡◌, refl, sym, ap, ◌∙◌}
use lib.Dec.{eqb}
use lib.ListN.{length, take, length-append}
use lib.Seq.{sets, get_or-take}
use Rattle.word.specs.Psw.{bit_of}
use Rattle.machine.specs.declared.Act.{Act}
use Rattle.machine.specs.declared.Act.TheVariants as act
use Rattle.machine.specs.State.{Core, State, pc}
use Rattle.machine.specs.Memory.{byte_at}
use Rattle.machine.specs.Events.{Event}
use Rattle.machine.specs.Devices.{status_of, events_waiting, deliver}
use Rattle.machine.specs.Step.{step_of}
use Rattle.machine.specs.Uneventful.{next_act}
use Rattle.machine_laws.specs.Bounds.{Each, OfDevice}
use Rattle.machine_laws.proofs.Cases.{bool_cases, and_left, and_right}
use Rattle.trace.specs.Trace.{Entry, entry, effect_bits, effect_on, event_entry, kind_of}
use Rattle.trace.specs.Trace.{number_of, address_of, value_of, act_entry, traced_of, trace_bytes}
use Rattle.trace.specs.Before.{events_before, Apart}
use Rattle.trace.proofs.Steps.{traced-parts}
use Rattle.trace.proofs.Before.{events-before}
use Rattle.trace.proofs.Bytes.{trace-length, trace-append}
use Rattle.stores.proofs.Laws.{sets_then}
use Rattle.trace_record.specs.declared.Before.{Before}
use Rattle.trace_record.specs.Written.{entry_with, seen_of, told_of, act_written}
use Rattle.trace_step.specs.Steps.{as_seen, events_written, step_written}

-- ---- events

module _ (b : Before) (s : State) (same : (k n a v : ℕ) → entry_with b k n a v ≡ entry s k n a v) (m : List ℕ) (is : m ≡ take 16
    s.mem) where
  seen-status : (d : ℕ) → d < 8 → byte_at m (status_of d) ≡ byte_at s.mem (status_of d)
  seen-status d h = ap (λ x. byte_at x (status_of d)) is ∙ get_or-take 16 s.mem (status_of d) 0 (omega arith)

  seen-event : (e : Event) → e.device < 8
      → event_entry (as_seen b m s.lines) (as_seen b m s.lines) e ≡ event_entry s s e
  unfolding effect_on
  seen-event e h =
      (λ i. entry_with b 0 e.device (effect_bits (seen-status e.device h i) (events_waiting s.lines e.device)) e.byte)
      ∙ same 0 e.device _ e.byte

  seen-events : (k : ℕ) (ev : List Event) → Each OfDevice ev → events_before (as_seen b m s.lines) k ev ≡ events_before s k ev
  unfolding events_before
  seen-events k [] o = refl
  seen-events k (e ∷ es) o =
      bool_cases (eqb e.step k)
      (λ q. rw q (λ i. seen-event e o.0 i ∷ seen-events k es o.1 i))
      (λ q. rw q (seen-events k es o.1))

-- ---- the act

told-number : (a : Act) (x p w : ℕ) → (told_of a x p w).number ≡ number_of a
told-number act.Stopped x p w = refl
told-number act.Pull x p w = refl
told-number (act.Chain d) x p w = refl
told-number (act.Accept d) x p w = refl
told-number act.Sleep x p w = refl
told-number (act.Fault v) x p w = refl
told-number act.Halt x p w = refl
told-number act.Skip x p w = refl
told-number (act.Trap v) x p w = refl
told-number act.Plain x p w = refl
told-number (act.Loads byte a d) x p w = refl
told-number (act.Stores byte a v) x p w = refl

told-address : (a : Act) (x : ℕ) (c : Core) → (told_of a x (pc c) c.psw).address ≡ address_of a c
told-address act.Stopped x c = refl
told-address act.Pull x c = refl
told-address (act.Chain d) x c = refl
told-address (act.Accept d) x c = refl
told-address act.Sleep x c = refl
told-address (act.Fault v) x c = refl
told-address act.Halt x c = refl
told-address act.Skip x c = refl
told-address (act.Trap v) x c = refl
told-address act.Plain x c = refl
told-address (act.Loads byte a d) x c = refl
told-address (act.Stores byte a v) x c = refl

told-value : (a : Act) (m : List ℕ) (c : Core) → (told_of a (seen_of a m) (pc c) c.psw).value ≡ value_of a c m
told-value act.Stopped m c = refl
told-value act.Pull m c = refl
told-value (act.Chain d) m c = refl
told-value (act.Accept d) m c = refl
told-value act.Sleep m c = refl
told-value (act.Fault v) m c = refl
told-value act.Halt m c = refl
told-value act.Skip m c = refl
told-value (act.Trap v) m c = refl
told-value act.Plain m c = refl
told-value (act.Loads byte a d) m c = refl
told-value (act.Stores byte a v) m c = refl

module _ (b : Before) (s : State) (same : (k n a v : ℕ) → entry_with b k n a v ≡ entry s k n a v) (ks : ℕ) where
  act-is : (a : Act) (m : List ℕ) (c : Core)
      → act_written b ks a (seen_of a m) (pc c) c.psw ≡ cond (bit_of (kind_of a) ks) (act_entry s a m c ∷ []) []
  act-is a m c =
      let t = told_of a (seen_of a m) (pc c) c.psw in
      ap (λ x. cond (bit_of (kind_of a) ks) (x ∷ []) [])
      ((λ i. entry_with b (kind_of a) (told-number a (seen_of a m) (pc c) c.psw i) (told-address a (seen_of a m) c i) (told-value a m c i))
      ∙ same (kind_of a) (number_of a) (address_of a c) (value_of a c m))

  -- ---- a step

  -- The device bytes are kept where an event is due; the act is the plan's, what it loads is read before it is performed, and PC
  -- and PSW are those after it.
  pub written_is : (ev : List Event) → 16 ≤ length s.mem → Each OfDevice ev → Apart ev
      → (wanted : Bool) (m : List ℕ) → (wanted ≡ true → m ≡ take 16 s.mem) → (wanted ≡ false → events_before s s.count ev ≡ [])
      → (a : Act) → a ≡ next_act ev s → (x : ℕ) → x ≡ seen_of a (deliver ev s).mem
      → (p w : ℕ) → p ≡ pc (step_of ev s).core → w ≡ (step_of ev s).core.psw
      → step_written b ks wanted m s.lines ev a x p w ≡ traced_of ks ev s
  written_is ev size devices apart wanted m kept none a a-is x x-is p w p-is w-is =
      let c = (step_of ev s).core in
      let n = s.count in
      let step_is : b.step ≡ n = ap (λ (y : Entry). y.step) (same 0 0 0 0) in
      let pick : List Entry → List Entry = λ xs. cond (bit_of 0 ks) xs [] in
      let events : cond wanted (events_written b ks m s.lines ev) [] ≡ pick (events_before s n ev) =
      bool_cases wanted
      (λ q. rw q
      (ap pick (ap (λ k. events_before (as_seen b m s.lines) k ev) step_is ∙ seen-events b s same m (kept q) n ev devices)))
      (λ q. rw q (sym (ap pick (none q) ∙ bool_cases (bit_of 0 ks) (λ z. rw z refl) (λ z. rw z refl)))) in
      let acts : act_written b ks a x p w ≡ act_written b ks (next_act ev s) (seen_of (next_act ev s) (deliver ev s).mem) (pc c) c.psw =
      (λ i. act_written b ks (a-is i) ((x-is ∙ ap (λ y. seen_of y (deliver ev s).mem) a-is) i) (p-is i) (w-is i)) in
      (λ i. events i ++ acts i)
      ∙ (λ i. pick (sym (events-before s ev size devices apart) i) ++ act-is (next_act ev s) (deliver ev s).mem c i)
      ∙ sym (traced-parts ev s ks)

-- ---- the parts of a step as the code writes them

module _ (b : Before) (ks : ℕ) (wanted asks : Bool) (test : asks ≡ bit_of 0 ks) (m : List ℕ) (l : ℕ) (ev : List Event) (a : Act)
    (x p w : ℕ) where
  abbrev events : List Entry
  events = events_before (as_seen b m l) b.step ev

  abbrev its : List Entry
  its = act_written b ks a x p w

  pub step-with : wanted && asks ≡ true → events ++ its ≡ step_written b ks wanted m l ev a x p w
  step-with q =
      let y = and_left wanted asks q in
      let z = sym test ∙ and_right wanted asks q in
      sym (ap (λ c. cond c (events_written b ks m l ev) [] ++ its) y ∙ ap (λ c. cond c events [] ++ its) z)

  pub step-without : wanted && asks ≡ false → its ≡ step_written b ks wanted m l ev a x p w
  step-without q =
      bool_cases wanted
      (λ y.
      let z : asks ≡ false = ap (λ c. c && asks) (sym y) ∙ q in
      sym (ap (λ c. cond c (events_written b ks m l ev) [] ++ its) y ∙ ap (λ c. cond c events [] ++ its) (sym test ∙ z)))
      (λ y. sym (ap (λ c. cond c (events_written b ks m l ev) [] ++ its) y))

-- records, and then others behind them
pub joined-count : (k j r : ℕ) (xs ys zs : List Entry) → xs ++ ys ≡ zs → j ≡ k + length xs → r ≡ j + length ys → r ≡ k + length zs
joined-count k j r xs ys zs e f g = let l = length-append xs ys in let n = ap length e in omega arith

pub joined-fits : (k j n : ℕ) (xs ys zs : List Entry) → xs ++ ys ≡ zs → j ≡ k + length xs → 16 * (k + length zs) ≤ n
    → 16 * (j + length ys) ≤ n
joined-fits k j n xs ys zs e f h = let l = length-append xs ys in let c = ap length e in omega arith

pub first_fits : (k n : ℕ) (xs ys zs : List Entry) → xs ++ ys ≡ zs → 16 * (k + length zs) ≤ n → 16 * (k + length xs) ≤ n
first_fits k n xs ys zs e h = let l = length-append xs ys in let c = ap length e in omega arith

pub joined_bytes : (t t' t'' : List ℕ) (k j : ℕ) (xs ys zs : List Entry) → xs ++ ys ≡ zs → j ≡ k + length xs
    → t' ≡ sets t (16 * k) (trace_bytes xs) → t'' ≡ sets t' (16 * j) (trace_bytes ys) → t'' ≡ sets t (16 * k) (trace_bytes zs)
joined_bytes t t' t'' k j xs ys zs e f g h =
    let l = trace-length xs in
    let at : 16 * j ≡ 16 * k + length (trace_bytes xs) = omega (arith, l, f) in
    h
    ∙ ap (λ u. sets u (16 * j) (trace_bytes ys)) g
    ∙ sets_then t (16 * k) (16 * j) (trace_bytes xs) (trace_bytes ys) at
    ∙ ap (sets t (16 * k)) (sym (trace-append xs ys) ∙ ap trace_bytes e)

-- the number of records of an act
pub act-count : (b : Before) (ks : ℕ) (a : Act) (x p w kind : ℕ) → kind ≡ kind_of a → (asks : Bool) → asks ≡ bit_of kind ks
    → bool_byte asks ≡ length (act_written b ks a x p w)
act-count b ks a x p w kind e asks f =
    ap bool_byte (f ∙ ap (λ k. bit_of k ks) e)
    ∙ bool_cases (bit_of (kind_of a) ks) (λ q. rw q refl) (λ q. rw q refl)

pub one_at_most : (c : Bool) → bool_byte c ≤ 1
one_at_most true = omega arith
one_at_most false = omega arith

pub both-count : (n m : ℕ) (xs ys zs : List Entry) → n ≡ length xs → m ≡ length ys → xs ++ ys ≡ zs → n + m ≡ length zs
both-count n m xs ys zs e f g = let l = length-append xs ys in let c = ap length g in omega arith
