-- Which runs are turned back (document 01, "Who can be turned back"; document 02, §1, §3): a definition over the raw
-- buffers and numbers. Assumes nothing.
use Rattle.std.specs.Prelude.{ℕ, zero, suc, ◌+◌, ◌*◌, ◌/◌, ◌%◌, Bool, true, false, cond, not, ◌&&◌, ◌||◌, List, [], ◌∷◌, ◌++◌, eqb, ltb, leb, length, Result, Ok, Err, is_ok}
use Rattle.machine.specs.declared.Refusal.{Refusal}
use Rattle.machine.specs.declared.Refusal.TheVariants.{MemoryLength, StepCount, RecordLength, RecordBits}
use Rattle.machine.specs.declared.Refusal.TheVariants.{EventsLength, EventFields, EventOrder, EventTwins}
use Rattle.machine.specs.declared.Refusal.TheVariants.{LogLength, JournalFit, StepsKept}
use Rattle.machine.specs.Memory.{byte_at}
use Rattle.machine.specs.Record.{two_at, four_at}
use Rattle.machine.specs.Events.{event_at, event_count}

-- Bits 12-9 of the PSW, bits 15-7 of the CEX state, byte 20 and bytes 30-31 are zero, and halted is 0 or 1; every count
-- of a line is lawful. [02 §7, for 01 Who can be turned back, 4]
unfoldable pub record_fits : List ℕ → Bool
record_fits r =
    eqb (two_at r 16 / 512 % 16) 0
    && ltb (two_at r 18) 128
    && eqb (byte_at r 20) 0
    && ltb (byte_at r 21) 2
    && eqb (two_at r 30) 0

-- A multiple of 8 bytes, at most 4,096 records. [01 Who can be turned back, 5]
abbrev pub events_fit : ℕ → Bool
events_fit n = eqb (n % 8) 0 && leb n 32768

-- Device at most 7, bytes 6-7 zero. [01 Who can be turned back, 6]
unfoldable pub event_fits : List ℕ → ℕ → Bool
event_fits b k = ltb (byte_at b (8 * k + 4)) 8 && eqb (two_at b (8 * k + 6)) 0

-- the first n records have it
unfoldable pub events_fit_below : List ℕ → ℕ → Bool
events_fit_below b zero = true
events_fit_below b (suc n) = events_fit_below b n && event_fits b n

-- Each of the first n records but the first has a step not below the one before it. [01 Who can be turned back, 7]
unfoldable pub in_order : List ℕ → ℕ → Bool
in_order b k = leb (event_at b k).step (event_at b (suc k)).step

unfoldable pub in_order_below : List ℕ → ℕ → Bool
in_order_below b zero = true
in_order_below b (suc zero) = true
in_order_below b (suc (suc n)) = in_order_below b (suc n) && in_order b n

-- One of the first n records is of this step and this device. [02 §3]
unfoldable pub event_below : List ℕ → (step device n : ℕ) → Bool
event_below b s d zero = false
event_below b s d (suc n) = event_below b s d n || eqb (event_at b n).step s && eqb (event_at b n).device d

-- Of the first n records "two records share step and device": one has the step and the device of another before it,
-- wherever the two stand and whatever their data. [02 §3]
unfoldable pub twins_below : List ℕ → ℕ → Bool
twins_below b zero = false
twins_below b (suc n) = twins_below b n || event_below b (event_at b n).step (event_at b n).device n

-- A rule: whether it is broken, and the refusal then. [01 Who can be turned back]
pub record Rule : Type 0 where
  pub broken : Bool
  pub refusal : Refusal

abbrev pub rule : Bool → Refusal → Rule
rule t v = record { broken = t; refusal = v }

-- The rules of a start in the order in which they are tested. The sum of 2 is compared once 3 has passed; 13 comes
-- "after 7 and before 9". [01 Who can be turned back; 02 §3]
abbrev pub rules_of : (memory r events : List ℕ) (n : ℕ) → List Rule
rules_of memory r events n =
    rule (not (eqb (length memory) 65536)) MemoryLength
    ∷ rule (ltb 1000000 n) StepCount
    ∷ rule (not (eqb (length r) 32)) RecordLength
    ∷ rule (ltb 4294967295 (four_at r 22 + n)) StepCount
    ∷ rule (not (record_fits r)) RecordBits
    ∷ rule (not (events_fit (length events))) EventsLength
    ∷ rule (not (events_fit_below events (event_count events))) EventFields
    ∷ rule (not (in_order_below events (event_count events))) EventOrder
    ∷ rule (twins_below events (event_count events)) EventTwins
    ∷ []

-- The rules of a run call: those of its start, and last "9 when the log's length is not a multiple of 8". [02 §1]
abbrev pub call_rules : (memory r events log : List ℕ) (n : ℕ) → List Rule
call_rules memory r events log n =
    rules_of memory r events n ++ (rule (not (eqb (length log % 8) 0)) LogLength ∷ [])

abbrev pub first_broken : List Rule → Result (Unit {0}) Refusal
first_broken [] = Ok tt
first_broken (x ∷ xs) = cond x.broken (Err x.refusal) (first_broken xs)

-- The first rule that is broken: of a start, and of a run call. [01 Who can be turned back]
unfoldable pub verdict_of : (memory r events : List ℕ) (n : ℕ) → Result (Unit {0}) Refusal
verdict_of memory r events n = first_broken (rules_of memory r events n)

unfoldable pub call_verdict : (memory r events log : List ℕ) (n : ℕ) → Result (Unit {0}) Refusal
call_verdict memory r events log n = first_broken (call_rules memory r events log n)

-- The papers' number of each refusal; 0 stands for none. [01 Who can be turned back; 02 §1; 02 §3; 02 §8]
abbrev pub refusal_number : Result (Unit {0}) Refusal → ℕ
refusal_number (Ok _) = 0
refusal_number (Err MemoryLength) = 1
refusal_number (Err StepCount) = 2
refusal_number (Err RecordLength) = 3
refusal_number (Err RecordBits) = 4
refusal_number (Err EventsLength) = 5
refusal_number (Err EventFields) = 6
refusal_number (Err EventOrder) = 7
refusal_number (Err EventTwins) = 13
refusal_number (Err LogLength) = 9
refusal_number (Err JournalFit) = 14
refusal_number (Err StepsKept) = 15

abbrev pub accepted? : Result (Unit {0}) Refusal → Bool
accepted? v = is_ok v
