-- The journal that a run keeps, as its loop goes: one step, whose record is that of the state before its events, and a free run, which is
-- empty where a journal is lent. Assumes nothing.
use Prim.Native.Nat.{ℕ, zero, suc, ◌+◌, ◌-◌, ◌*◌}
use mathlib.Core.Bool.{false, cond}
use mathlib.Core.List.{List, ◌++◌}
use mathlib.Core.Path.{◌≡◌, refl, sym, ap, ◌∙◌}
use native.Mathlib.Numerals.{add-one}
use native.Mathlib.Omega.{arith}
use lib.Dec.{eqb}
use lib.ListN.{length, take, drop, get_or}
use lib.Seq.{sets, sets-eq, length-sets, take_at, get_or-append-add, get_or-drop}
use Rattle.machine.specs.declared.Rest.{Rest}
use Rattle.machine.specs.State.{State, state_with}
use Rattle.machine.specs.Record.{record_of}
use Rattle.machine.specs.Events.{Event}
use Rattle.machine.specs.Devices.{deliver}
use Rattle.machine.specs.Step.{Plan, plan_of}
use Rattle.machine.specs.Run.{run_of}
use Rattle.machine_laws.proofs.Cases.{bool_cases}
use Rattle.journal.specs.Record.{address_by, bytes_from, fields_of, journal_record}
use Rattle.journal.specs.Ring.{Journal, keep, journal_after}
use Rattle.journal_record.specs.declared.Ring.{Ring}
use Rattle.journal_record.specs.Ring.{journal_with, kept_in}
use Rattle.journal_record.specs.Before.{Before}
use Rattle.kept_run.specs.Kept.{kept_over}

-- ---- the journal after so many steps

journal-size : (ev : List Event) (s : State) (j : Journal) (n : ℕ) → length (journal_after ev s j n).bytes ≡ length j.bytes
unfolding journal_after keep
journal-size ev s j zero = refl
journal-size ev s j (suc n) =
    let x = journal_after ev s j n in
    length-sets x.bytes (64 * x.place) (journal_record ev (run_of ev s n).state) ∙ journal-size ev s j n

module _ (b : List ℕ) (r : Ring) (ev : List Event) (s : State) where
  pub kept-start : journal_with b r ≡ kept_over b r ev s 0
  unfolding journal_after
  kept-start = bool_cases (eqb (length b) 0) (λ q. rw q refl) (λ q. rw q refl)

  pub kept-size : (n : ℕ) → length (kept_over b r ev s n).bytes ≡ length b
  kept-size n = bool_cases (eqb (length b) 0) (λ q. rw q refl) (λ q. rw q (journal-size ev s (journal_with b r) n))

  -- a free run
  pub kept_free : (n j : ℕ) → (eqb (length b) 0 ≡ false → j ≡ 0)
      → (x : Journal) → x ≡ kept_over b r ev s n → x ≡ kept_over b r ev s (n + j)
  kept_free n j none x f =
      f
      ∙ bool_cases (eqb (length b) 0)
      (λ q. rw q refl) (λ q. let z = none q in let same : n ≡ n + j = omega arith in ap (kept_over b r ev s) same)

  -- one step more from the state t; e is its record, where a journal is lent
  pub kept_next : (n : ℕ) (t : State) → t ≡ (run_of ev s n).state
      → (j : List ℕ) (x : Ring) → journal_with j x ≡ kept_over b r ev s n
      → (e : List ℕ) → (eqb (length b) 0 ≡ false → e ≡ journal_record ev t)
      → (y : Journal) → y ≡ kept_in j x e → y ≡ kept_over b r ev s (n + 1)
  unfolding journal_after
  kept_next n t et j x ej e ee y ey =
      let size : length j ≡ length b = ap (λ (z : Journal). length z.bytes) ej ∙ kept-size n in
      let now = kept_over b r ev s n in
      let same : y ≡ cond (eqb (length b) 0) now (keep e now) = ey ∙ (λ i. cond (eqb (size i) 0) (ej i) (keep e (ej i))) in
      let z = journal_after ev s (journal_with b r) n in
      same
      ∙ bool_cases (eqb (length b) 0)
      (λ q. rw q refl) (λ q.
      let more : keep e z ≡ journal_after ev s (journal_with b r) (n + 1) =
      ap (λ v. keep v z) (ee q)
      ∙ ap (λ u. keep (journal_record ev u) z) et
      ∙ ap (journal_after ev s (journal_with b r)) (sym (add-one n)) in
      rw q more)

-- ---- the record of a step

-- the device bytes kept, put into the memory after the events
pub before-kept : (d m : List ℕ) → length d ≡ 16 → length m ≡ 65536 → Before (sets m 0 d) d m
before-kept d m ed em =
    let end : 0 + length d ≡ 16 = omega arith in
    let joined : sets m 0 d ≡ d ++ drop 16 m = sets-eq d m 0 (omega arith) ∙ ap (λ n. d ++ drop n m) end in
    record {
      size = length-sets m 0 d ∙ em;
      devices = sym (ap (take 16) joined ∙ take_at d (drop 16 m) 16 ed);
      others = λ a h l.
          let i : length d + (a - 16) ≡ a = omega arith in
          let k : 16 + (a - 16) ≡ a = omega arith in
          sym (ap (λ x. get_or x a 0) joined
          ∙ ap (λ n. get_or (d ++ drop 16 m) n 0) (sym i)
          ∙ get_or-append-add d (drop 16 m) (a - 16) 0
          ∙ get_or-drop 16 m (a - 16) 0
          ∙ ap (λ n. get_or m n 0) k);
    }

-- that of the state, once its memory is the one before the events
pub record-kept : (ev : List Event) (regs : List ℕ) (t : Rest) (mem b : List ℕ) → b ≡ mem
    → (q : Plan) → q ≡ plan_of (deliver ev (state_with regs t mem))
    → fields_of (record_of (state_with regs t b)) (bytes_from b 0 16) (address_by q) (bytes_from b (address_by q) 8)
    ≡ journal_record ev (state_with regs t mem)
unfolding journal_record
record-kept ev regs t mem b eb q eq i =
    fields_of (record_of (state_with regs t (eb i))) (bytes_from (eb i) 0 16) (address_by (eq i)) (bytes_from (eb i) (address_by (eq i)) 8)
