-- The state record both ways, and what an accepted run has settled. A number of two or four bytes comes back from its bytes; an accepted
-- record has zeros where the state has nothing to say, so reading it and writing it again loses no byte. Assumes nothing.
use Prim.Native.Nat.{ℕ, zero, suc, ◌+◌, ◌*◌, ◌/◌, ◌%◌, ◌-◌, ◌^◌, ◌<◌, ◌≤◌}
use native.Mathlib.Nat.{add-zero, add-suc}
use native.Mathlib.Omega.{arith}
use mathlib.Core.Bool.{Bool, true, false, cond, not, ◌&&◌, false≢true}
use mathlib.Core.List.{List, [], ◌∷◌}
use mathlib.Core.Logic.{◌≢◌}
use mathlib.Core.Path.{◌≡◌, refl, sym, ap, subst, ◌∙◌}
use lib.Dec.{eqb, ltb, leb, lit<}
use lib.ListN.{length, get_or, drop}
use lib.Seq.{drop-cons, drop-length}
use borrow.Author.Tests.{not-false}
use Rattle.std.specs.Prelude.{Result, Ok, Err}
use Rattle.word.proofs.Laws.{bit-read, bit-back}
use Rattle.machine.specs.declared.Refusal.{Refusal}
use Rattle.machine.specs.declared.Refusal.TheVariants.{MemoryLength, StepCount, RecordLength, RecordBits, EventsLength}
use Rattle.machine.specs.declared.Refusal.TheVariants.{EventFields, EventOrder, EventTwins, LogLength, JournalFit, StepsKept}
use Rattle.machine.specs.State.{Core, State, reg}
use Rattle.machine.specs.Memory.{byte_at, low_byte, high_byte}
use Rattle.machine.specs.Record.{two_at, four_at, state_in, record_of, count_byte}
use Rattle.machine.specs.Events.{event_at, events_from, events_of, event_count}
use Rattle.machine.specs.Run.{run_of}
use Rattle.machine.specs.Refusal.{record_fits, events_fit, event_fits, events_fit_below, in_order, in_order_below, twins_below}
use Rattle.machine.specs.Refusal.{verdict_of, refusal_number, accepted?}
use Rattle.machine_laws.specs.Bounds.{Each, Bytes, Tidy, EventFits}
use Rattle.machine_laws.specs.Passed.{Passed}
use Rattle.machine_laws.specs.Twins.{Twins}
use Rattle.machine_laws.proofs.Cases.{bool_cases, eq_of, lt_of, ge-of, le_of, and_left, and_right}
use Rattle.machine_laws.proofs.Memory.{word_back}
use Rattle.machine_laws.proofs.Runs.{steps-le}
use Rattle.machine_laws.proofs.Twins.{twins-met}
use Rattle.machine_laws.proofs.Steps.{run-tidy, run-count}

-- ---- lists of a known length, cell by cell

cells : (n i : ℕ) → List ℕ → List ℕ
cells zero i l = []
cells (suc n) i l = get_or l i 0 ∷ cells n (suc i) l

all-cells : (n i : ℕ) (l : List ℕ) → i + n ≡ length l → drop i l ≡ cells n i l
unfolding cells
all-cells zero i l e = let h : i ≡ length l = omega arith in ap (λ k. drop k l) h ∙ drop-length l
all-cells (suc n) i l e =
    drop-cons l i 0 (omega arith) ∙ ap (λ t. get_or l i 0 ∷ t) (all-cells n (suc i) l (omega arith))

-- a list of eight, and one of 32
pub eight_cells : (l : List ℕ) → length l ≡ 8
    → l ≡ get_or l 0 0 ∷ get_or l 1 0 ∷ get_or l 2 0 ∷ get_or l 3 0 ∷ get_or l 4 0 ∷ get_or l 5 0 ∷ get_or l 6 0 ∷ get_or l 7 0 ∷ []
unfolding cells
eight_cells l h = all-cells 8 0 l (omega arith)

-- ---- numbers of two and four bytes

two-low : (x y : ℕ) → x < 256 → low_byte (x + 256 * y) ≡ x
two-low x y h = omega arith

two-high : (x y : ℕ) → x < 256 → y < 256 → high_byte (x + 256 * y) ≡ y
two-high x y h k = omega arith

pub two-lt : (b : List ℕ) (i : ℕ) → Bytes b → two_at b i < 65536
two-lt b i h = let l = h i in let k = h (i + 1) in omega arith

four-lt : (a b c d : ℕ) → a < 256 → b < 256 → c < 256 → d < 256 → a + 256 * b + 65536 * (c + 256 * d) < 2 ^ 32
four-lt a b c d h k l m = omega arith

four-0 : (a b c d : ℕ) → a < 256 → count_byte (a + 256 * b + 65536 * (c + 256 * d)) 1 ≡ a
four-0 a b c d h = omega arith

four-1 : (a b c d : ℕ) → a < 256 → b < 256 → count_byte (a + 256 * b + 65536 * (c + 256 * d)) 0x100 ≡ b
four-1 a b c d h k =
    let e : (a + 256 * b + 65536 * (c + 256 * d)) / 256 ≡ b + 256 * (c + 256 * d) = omega arith in
    rw e (omega arith)

four-2 : (a b c d : ℕ) → a < 256 → b < 256 → c < 256 → count_byte (a + 256 * b + 65536 * (c + 256 * d)) 0x10000 ≡ c
four-2 a b c d h k l =
    let e : (a + 256 * b + 65536 * (c + 256 * d)) / 65536 ≡ c + 256 * d = omega arith in
    rw e (omega arith)

four-3 : (a b c d : ℕ) → a < 256 → b < 256 → c < 256 → d < 256 → count_byte (a + 256 * b + 65536 * (c + 256 * d)) 0x1000000 ≡ d
four-3 a b c d h k l m =
    let e : (a + 256 * b + 65536 * (c + 256 * d)) / 16777216 ≡ d = omega arith in
    rw e (omega arith)

pub four-back : (n : ℕ) → n ≤ 4294967295
    → count_byte n 1 + 256 * count_byte n 0x100 + 65536 * (count_byte n 0x10000 + 256 * count_byte n 0x1000000) ≡ n
four-back n h =
    let a : n ≡ n / 256 * 256 + n % 256 = omega arith in
    let b : n / 256 ≡ n / 65536 * 256 + n / 256 % 256 = omega arith in
    let c : n / 65536 ≡ n / 16777216 * 256 + n / 65536 % 256 = omega arith in
    let d : n / 16777216 % 256 ≡ n / 16777216 = omega arith in
    let e : n / 1 ≡ n = omega arith in
    rw e (join n (n / 256) (n / 65536) (n / 16777216) (n % 256) (n / 256 % 256) (n / 65536 % 256) (n / 16777216 % 256) a b c d)
  where
    join : (n q r t x y z u : ℕ) → n ≡ q * 256 + x → q ≡ r * 256 + y → r ≡ t * 256 + z → u ≡ t → x + 256 * y + 65536 * (z + 256 * u) ≡ n
    join n q r t x y z u a b c d = omega arith

-- ---- a record is bytes

reduced : List ℕ → List ℕ
reduced [] = []
reduced (x ∷ xs) = x % 256 ∷ reduced xs

reduced-bytes : (xs : List ℕ) → Bytes (reduced xs)
unfolding reduced
reduced-bytes [] i = lit< tt
reduced-bytes (x ∷ xs) zero = omega arith
reduced-bytes (x ∷ xs) (suc i) = reduced-bytes xs i

-- what a record reduces: each part from its lowest byte on
parts : Core → (lines halted count : ℕ) → List ℕ
parts c l h n =
    reg c 0 ∷ reg c 0 / 256 ∷ reg c 1 ∷ reg c 1 / 256 ∷ reg c 2 ∷ reg c 2 / 256 ∷ reg c 3 ∷ reg c 3 / 256
    ∷ reg c 4 ∷ reg c 4 / 256 ∷ reg c 5 ∷ reg c 5 / 256 ∷ reg c 6 ∷ reg c 6 / 256 ∷ reg c 7 ∷ reg c 7 / 256
    ∷ c.psw ∷ c.psw / 256 ∷ c.cex ∷ c.cex / 256 ∷ 0 ∷ h ∷ n / 1 ∷ n / 0x100 ∷ n / 0x10000 ∷ n / 0x1000000
    ∷ l / 1 ∷ l / 0x100 ∷ l / 0x10000 ∷ l / 0x1000000 ∷ 0 ∷ 0 ∷ []

parts-bytes : (c : Core) (l : ℕ) (h : Bool) (n : ℕ) (m : List ℕ)
    → Bytes (record_of (record { core = c; lines = l; halted = h; count = n; mem = m }))
unfolding record_of reduced parts
parts-bytes c l true n m = reduced-bytes (parts c l 1 n)
parts-bytes c l false n m = reduced-bytes (parts c l 0 n)

pub record_bytes : (s : State) → Bytes (record_of s)
record_bytes s = parts-bytes s.core s.lines s.halted s.count s.mem

-- ---- reading after writing gives the state

pub record-read : (s : State) → Tidy s → s.count ≤ 4294967295 → state_in (record_of s) s.mem ≡ s
unfolding state_in record_of
record-read s t h =
    let c = s.core in
    let w : (i : ℕ) → low_byte (reg c i) + 256 * high_byte (reg c i) ≡ reg c i = λ i. word_back (reg c i) (t.core.words i) in
    let regs = (λ i. w 0 i ∷ w 1 i ∷ w 2 i ∷ w 3 i ∷ w 4 i ∷ w 5 i ∷ w 6 i ∷ w 7 i ∷ []) ∙ sym (eight_cells c.regs t.core.eight) in
    let psw = word_back c.psw t.core.psw_word in
    let cex = word_back c.cex (let x = t.core.cex_small in omega arith) in
    λ i.
    record {
      core = record { regs = regs i; psw = psw i; cex = cex i };
      lines = four-back s.lines (let f = t.lines in omega arith) i;
      halted = bit-read s.halted i;
      count = four-back s.count h i;
      mem = s.mem;
    }

-- ---- writing after reading gives the bytes

record-cells : (r : List ℕ) → length r ≡ 32 → r ≡ cells 32 0 r
record-cells r h = all-cells 32 0 r (omega arith)

both_zero : (x y : ℕ) → x + 256 * y ≡ 0 → (0 ≡ x) × (0 ≡ y)
both_zero x y h = (omega arith, omega arith)

module _ (memory r events : List ℕ) (n : ℕ) (P : Passed memory r events n) (b : Bytes r) where
  low-is : (i : ℕ) → low_byte (two_at r i) ≡ byte_at r i
  low-is i = two-low (byte_at r i) (byte_at r (i + 1)) (b i)

  high_is : (i : ℕ) → high_byte (two_at r i) ≡ byte_at r (i + 1)
  high_is i = two-high (byte_at r i) (byte_at r (i + 1)) (b i) (b (i + 1))

  -- the four bytes of a number read from four
  byte-0 : (i : ℕ) → count_byte (four_at r i) 1 ≡ byte_at r i
  byte-0 i = four-0 (byte_at r i) (byte_at r (i + 1)) (byte_at r (i + 2)) (byte_at r (i + 2 + 1)) (b i)

  byte-1 : (i : ℕ) → count_byte (four_at r i) 0x100 ≡ byte_at r (i + 1)
  byte-1 i = four-1 (byte_at r i) (byte_at r (i + 1)) (byte_at r (i + 2)) (byte_at r (i + 2 + 1)) (b i) (b (i + 1))

  byte-2 : (i : ℕ) → count_byte (four_at r i) 0x10000 ≡ byte_at r (i + 2)
  byte-2 i = four-2 (byte_at r i) (byte_at r (i + 1)) (byte_at r (i + 2)) (byte_at r (i + 2 + 1)) (b i) (b (i + 1)) (b (i + 2))

  byte-3 : (i : ℕ) → count_byte (four_at r i) 0x1000000 ≡ byte_at r (i + 2 + 1)
  byte-3 i =
      four-3 (byte_at r i) (byte_at r (i + 1)) (byte_at r (i + 2)) (byte_at r (i + 2 + 1)) (b i) (b (i + 1)) (b (i + 2)) (b (i + 2 + 1))

  pub record-written : record_of (state_in r memory) ≡ r
  unfolding state_in record_of cells
  record-written =
      let z30 = both_zero (byte_at r 30) (byte_at r 31) P.zeros_30 in
      let mark = bit-back (byte_at r 21) P.halted_mark in
      (λ i.
      low-is 0 i ∷ high_is 0 i ∷ low-is 2 i ∷ high_is 2 i ∷ low-is 4 i ∷ high_is 4 i ∷ low-is 6 i ∷ high_is 6 i
      ∷ low-is 8 i ∷ high_is 8 i ∷ low-is 10 i ∷ high_is 10 i ∷ low-is 12 i ∷ high_is 12 i ∷ low-is 14 i ∷ high_is 14 i
      ∷ low-is 16 i ∷ high_is 16 i ∷ low-is 18 i ∷ high_is 18 i
      ∷ sym P.zero_20 i
      ∷ mark i
      ∷ byte-0 22 i ∷ byte-1 22 i ∷ byte-2 22 i ∷ byte-3 22 i
      ∷ byte-0 26 i ∷ byte-1 26 i ∷ byte-2 26 i ∷ byte-3 26 i
      ∷ z30.0 i ∷ z30.1 i ∷ [])
      ∙ sym (record-cells r P.record_size)

-- ---- what an accepted run has settled

-- a test that would have refused was not met
pub not-met : (t : Bool) (x : Refusal) (y : Result (Unit {0}) Refusal) → cond t (Err x) y ≡ Ok tt → (t ≡ false) × (y ≡ Ok tt)
not-met true x y e = absurd (cc e)
not-met false x y e = (refl, e)

-- a refusal has a number from 1 up, below 256
pub refused-number : (x : Refusal) → (0 < refusal_number (Err x)) × (refusal_number (Err x) < 256)
refused-number MemoryLength = (omega arith, omega arith)
refused-number StepCount = (omega arith, omega arith)
refused-number RecordLength = (omega arith, omega arith)
refused-number RecordBits = (omega arith, omega arith)
refused-number EventsLength = (omega arith, omega arith)
refused-number EventFields = (omega arith, omega arith)
refused-number EventOrder = (omega arith, omega arith)
refused-number EventTwins = (omega arith, omega arith)
refused-number LogLength = (omega arith, omega arith)
refused-number JournalFit = (omega arith, omega arith)
refused-number StepsKept = (omega arith, omega arith)

pub number-small : (v : Result (Unit {0}) Refusal) → refusal_number v < 256
number-small (Ok x) = omega arith
number-small (Err x) = (refused-number x).1

-- only an acceptance has the number 0
pub is-accepted : (v : Result (Unit {0}) Refusal) → refusal_number v ≡ 0 → v ≡ Ok tt
is-accepted (Ok x) e = refl
is-accepted (Err x) e = absurd (omega (arith, e, (refused-number x).0))

pub is-refused : (v : Result (Unit {0}) Refusal) → refusal_number v ≢ 0 → accepted? v ≡ false
is-refused (Ok x) h = absurd (h refl)
is-refused (Err x) h = refl

pub not-zero : (v : Result (Unit {0}) Refusal) → accepted? v ≡ false → refusal_number v ≢ 0
not-zero (Ok x) e = absurd (cc e)
not-zero (Err x) e = λ q. absurd (omega (arith, q, (refused-number x).0))

-- only an acceptance is accepted
pub accepted-is : (v : Result (Unit {0}) Refusal) → accepted? v ≡ true → v ≡ Ok tt
accepted-is (Ok x) e = refl
accepted-is (Err x) e = absurd (cc e)

fit-below : (b : List ℕ) (n : ℕ) → events_fit_below b n ≡ true → (k : ℕ) → k < n → event_fits b k ≡ true
unfolding events_fit_below
fit-below b zero e k h = absurd (omega arith)
fit-below b (suc n) e k h =
    bool_cases (ltb k n)
    (λ q. fit-below b n (and_left (events_fit_below b n) (event_fits b n) e) k (lt_of q)) (λ q.
    let g : n ≤ k = ge-of q in
    let w : n ≡ k = omega arith in
    subst (λ x. event_fits b x ≡ true) w (and_right (events_fit_below b n) (event_fits b n) e))

order_below : (b : List ℕ) (n : ℕ) → in_order_below b n ≡ true → (k : ℕ) → suc k < n → in_order b k ≡ true
unfolding in_order_below
order_below b zero e k h = absurd (omega arith)
order_below b (suc zero) e k h = absurd (omega arith)
order_below b (suc (suc n)) e k h =
    bool_cases (ltb k n)
    (λ q. let l : k < n = lt_of q in order_below b (suc n) (and_left (in_order_below b (suc n)) (in_order b n) e) k (omega arith)) (λ q.
    let g : n ≤ k = ge-of q in
    let w : n ≡ k = omega arith in
    subst (λ x. in_order b x ≡ true) w (and_right (in_order_below b (suc n)) (in_order b n) e))

step-order : (b : List ℕ) (n : ℕ) → in_order_below b n ≡ true → (k : ℕ) → suc k < n → (event_at b k).step ≤ (event_at b (suc k)).step
unfolding in_order
step-order b n e k h = le_of (order_below b n e k h)

sorted : (b : List ℕ) (n : ℕ) → in_order_below b n ≡ true → (j i : ℕ) → j + i < n → (event_at b j).step ≤ (event_at b (j + i)).step
sorted b n e j zero h = subst (λ x. (event_at b j).step ≤ (event_at b x).step) (sym (add-zero j)) (omega arith)
sorted b n e j (suc i) h =
    let p : (event_at b j).step ≤ (event_at b (j + i)).step = sorted b n e j i (omega arith) in
    let q : (event_at b (j + i)).step ≤ (event_at b (suc (j + i))).step = step-order b n e (j + i) (omega arith) in
    subst (λ x. (event_at b j).step ≤ (event_at b x).step) (sym (add-suc j i)) (omega arith)

record RecordFacts (r : List ℕ) : Type 0 where
  psw : two_at r 16 / 512 % 16 ≡ 0
  cex : two_at r 18 < 128
  z20 : byte_at r 20 ≡ 0
  mark : byte_at r 21 < 2
  z30 : two_at r 30 ≡ 0

record-facts : (r : List ℕ) → record_fits r ≡ true → RecordFacts r
unfolding record_fits
record-facts r e =
    let t1 = eqb (two_at r 16 / 512 % 16) 0 in
    let t2 = ltb (two_at r 18) 128 in
    let t3 = eqb (byte_at r 20) 0 in
    let t4 = ltb (byte_at r 21) 2 in
    let t5 = eqb (two_at r 30) 0 in
    let e4 = and_left (t1 && t2 && t3 && t4) t5 e in
    let e3 = and_left (t1 && t2 && t3) t4 e4 in
    let e2 = and_left (t1 && t2) t3 e3 in
    record {
      psw = eq_of (and_left t1 t2 e2);
      cex = lt_of (and_right t1 t2 e2);
      z20 = eq_of (and_right (t1 && t2) t3 e3);
      mark = lt_of (and_right (t1 && t2 && t3) t4 e4);
      z30 = eq_of (and_right (t1 && t2 && t3 && t4) t5 e);
    }

event-device : (b : List ℕ) (k : ℕ) → event_fits b k ≡ true → (event_at b k).device < 8
unfolding event_fits event_at
event-device b k e = lt_of (and_left (ltb (byte_at b (8 * k + 4)) 8) (eqb (two_at b (8 * k + 6)) 0) e)

event-zero : (b : List ℕ) (k : ℕ) → event_fits b k ≡ true → two_at b (8 * k + 6) ≡ 0
unfolding event_fits
event-zero b k e = eq_of (and_right (ltb (byte_at b (8 * k + 4)) 8) (eqb (two_at b (8 * k + 6)) 0) e)

pub passed : (memory r events : List ℕ) (n : ℕ) → verdict_of memory r events n ≡ Ok tt → Passed memory r events n
unfolding verdict_of
passed memory r events n e =
    let p1 = not-met (not (eqb (length memory) 65536)) MemoryLength _ e in
    let p2 = not-met (ltb 1000000 n) StepCount _ p1.1 in
    let p3 = not-met (not (eqb (length r) 32)) RecordLength _ p2.1 in
    let p4 = not-met (ltb 4294967295 (four_at r 22 + n)) StepCount _ p3.1 in
    let p5 = not-met (not (record_fits r)) RecordBits _ p4.1 in
    let p6 = not-met (not (events_fit (length events))) EventsLength _ p5.1 in
    let p7 = not-met (not (events_fit_below events (event_count events))) EventFields _ p6.1 in
    let p8 = not-met (not (in_order_below events (event_count events))) EventOrder _ p7.1 in
    let p9 = not-met (twins_below events (event_count events)) EventTwins _ p8.1 in
    let facts = record-facts r (not-false (record_fits r) p5.0) in
    let lengths = not-false (events_fit (length events)) p6.0 in
    let fits = not-false (events_fit_below events (event_count events)) p7.0 in
    let order = not-false (in_order_below events (event_count events)) p8.0 in
    record {
      memory_size = eq_of (not-false (eqb (length memory) 65536) p1.0);
      few_steps = ge-of p2.0;
      count_fits = ge-of p4.0;
      record_size = eq_of (not-false (eqb (length r) 32) p3.0);
      psw_zeros = facts.psw;
      cex_small = facts.cex;
      zero_20 = facts.z20;
      halted_mark = facts.mark;
      zeros_30 = facts.z30;
      whole_events = eq_of (and_left (eqb (length events % 8) 0) (leb (length events) 32768) lengths);
      few_events = le_of (and_right (eqb (length events % 8) 0) (leb (length events) 32768) lengths);
      devices = λ k h. event-device events k (fit-below events (event_count events) fits k h);
      event_zeros = λ k h. event-zero events k (fit-below events (event_count events) fits k h);
      in_order = λ j k h l.
          let w : j + (k - j) ≡ k = omega arith in
          subst (λ x. (event_at events j).step ≤ (event_at events x).step) w
          (sorted events (event_count events) order j (k - j) (omega arith));
      no_twins = λ j k h l s d.
          let t : Twins events (event_count events) = record { one = j; other = k; before = h; within = l; step = s; device = d } in
          false≢true (sym p9.0 ∙ twins-met events (event_count events) t);
    }

-- ---- an accepted start is tidy

pub start-tidy : (memory r events : List ℕ) (n : ℕ) → Passed memory r events n → Bytes memory → Bytes r → Tidy (state_in r memory)
unfolding state_in
start-tidy memory r events n P bm br =
    record {
      core = record {
        eight = refl;
        words = λ i. register i;
        psw_word = two-lt r 16 br;
        psw_zeros = P.psw_zeros;
        cex_small = P.cex_small;
      };
      lines = four-lt (byte_at r 26) (byte_at r 27) (byte_at r 28) (byte_at r 29) (br 26) (br 27) (br 28) (br 29);
      size = P.memory_size;
      bytes = bm;
    }
  where
    register : (i : ℕ)
        → get_or (two_at r 0 ∷ two_at r 2 ∷ two_at r 4 ∷ two_at r 6 ∷ two_at r 8 ∷ two_at r 10 ∷ two_at r 12 ∷ two_at r 14 ∷ []) i 0 < 65536
    register zero = two-lt r 0 br
    register (suc zero) = two-lt r 2 br
    register (suc (suc zero)) = two-lt r 4 br
    register (suc (suc (suc zero))) = two-lt r 6 br
    register (suc (suc (suc (suc zero)))) = two-lt r 8 br
    register (suc (suc (suc (suc (suc zero))))) = two-lt r 10 br
    register (suc (suc (suc (suc (suc (suc zero)))))) = two-lt r 12 br
    register (suc (suc (suc (suc (suc (suc (suc zero))))))) = two-lt r 14 br
    register (suc (suc (suc (suc (suc (suc (suc (suc i)))))))) = lit< tt

event-fits : (b : List ℕ) (k : ℕ) → Bytes b → (event_at b k).device < 8 → EventFits (event_at b k)
unfolding event_at
event-fits b k h d = (d, h (8 * k + 5))

from-fit : (b : List ℕ) (n k : ℕ) → ((j : ℕ) → j < k + n → EventFits (event_at b j)) → Each EventFits (events_from b k n)
unfolding events_from
from-fit b zero k h = tt
from-fit b (suc n) k h = (h k (omega arith), from-fit b n (suc k) (λ j l. h j (omega arith)))

pub events-fit : (memory r events : List ℕ) (n : ℕ) → Passed memory r events n → Bytes events → Each EventFits (events_of events)
events-fit memory r events n P be =
    from-fit events (event_count events) 0 (λ j h. event-fits events j be (P.devices j (omega arith)))

-- the count that a run starts from
pub start-count : (r memory : List ℕ) → (state_in r memory).count ≡ four_at r 22
unfolding state_in
start-count r memory = refl

-- the closing record of an accepted run holds the closing state
pub closing-read : (memory r events : List ℕ) (n : ℕ) → Passed memory r events n → Bytes memory → Bytes r → Bytes events
    → state_in (record_of (run_of (events_of events) (state_in r memory) n).state)
    (run_of (events_of events) (state_in r memory) n).state.mem
    ≡ (run_of (events_of events) (state_in r memory) n).state
closing-read memory r events n P bm br be =
    let ev = events_of events in
    let s = state_in r memory in
    let c = run-count ev s n in
    let l = steps-le ev s n in
    let q : s.count + n ≤ 4294967295 = rw (start-count r memory) P.count_fits in
    record-read (run_of ev s n).state
    (run-tidy ev s n (events-fit memory r events n P be) (start-tidy memory r events n P bm br)) (omega arith)
