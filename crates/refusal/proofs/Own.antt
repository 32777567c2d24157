-- The rules of a start by a machine's fields. A record that is written of a machine has its length, and zeros where a record has
-- them, so that only the rules on memory, steps, PSW, CEX state and the list can be broken. Assumes nothing.
use Prim.Native.Nat.{ℕ, ◌+◌, ◌/◌, ◌%◌, ◌<◌, ◌≤◌}
use mathlib.Core.Bool.{Bool, true, false, cond, not, ◌&&◌, and-true}
use mathlib.Core.List.{List, [], ◌∷◌}
use mathlib.Core.Path.{◌≡◌, refl, ◌∙◌}
use native.Mathlib.Omega.{arith}
use mir.Val.{Val, bool_byte}
use lib.Dec.{eqb, ltb}
use lib.ListN.{length, drop}
use borrow.Author.Tests.{lt-ltb}
use denote.Laws.{Is}
use denote.Struct.Laws as LL
use Rattle.std.specs.Prelude.{Result, Err}
use Rattle.word.proofs.Laws.{bit_le}
use Rattle.machine.specs.contracts.Machine as T
use Rattle.machine.proofs.Machine.TheLaws as T'
use Rattle.machine.specs.contracts.Rest as R
use Rattle.machine.proofs.Rest.TheLaws as R'
use Rattle.machine.specs.declared.Machine.{Machine}
use Rattle.machine.specs.declared.Rest.{Rest}
use Rattle.machine.specs.declared.Refusal.{Refusal}
use Rattle.machine.specs.declared.Refusal.TheVariants.{MemoryLength, StepCount, RecordBits}
use Rattle.machine.specs.State.{State, state_of}
use Rattle.machine.specs.Record.{four_at, record_of}
use Rattle.machine.specs.Refusal.{record_fits, Rule, rule, rules_of, first_broken, verdict_of}
use Rattle.machine_laws.specs.Passed.{Passed}
use Rattle.machine_laws.proofs.Memory.{word_back}
use Rattle.machine_laws.proofs.Records.{four-back}

-- PSW, CEX state and count of a machine have their bits
record Bits (t : Rest) : Type 0 where
  psw : t.psw < 65536
  cex : t.cex < 65536
  count : t.count < 4294967296

bits : (m : Machine) (vs : List Val) → Is T.the_row m vs → Bits m.rest
bits m vs is =
    let x = LL.owed R.the_type R'.the_laws m.rest _ (LL.owed T.the_type T'.the_laws m vs is).1.0 in
    record { psw = x.0.1; cex = x.1.0.1; count = x.1.1.1.1.0.1 }

record-count : (s : State) → s.count < 4294967296 → four_at (record_of s) 22 ≡ s.count
unfolding record_of
record-count s h = four-back s.count (omega arith)

record_size : (s : State) → length (record_of s) ≡ 32
unfolding record_of
record_size s = refl

-- the zeros and the halted mark of a record that is written are fit by themselves
record-fits : (s : State) → s.core.psw < 65536 → s.core.cex < 65536
    → record_fits (record_of s) ≡ eqb (s.core.psw / 512 % 16) 0 && ltb s.core.cex 128
unfolding record_fits record_of
record-fits s h k =
    let l = bit_le s.halted in
    let mark : ltb (bool_byte s.halted) 2 ≡ true = lt-ltb (bool_byte s.halted) 2 (omega arith) in
    let fields = eqb (s.core.psw / 512 % 16) 0 && ltb s.core.cex 128 in
    rw (word_back s.core.psw h, word_back s.core.cex k, mark) (and-true _ ∙ and-true _ ∙ and-true fields)

-- the rules that a start from a machine's own record can break, by its fields; the verdict is the first that is broken
abbrev pub field_rules : Rest → (memory events : List ℕ) → (n : ℕ) → List Rule
field_rules t memory events n =
    rule (not (eqb (length memory) 65536)) MemoryLength
    ∷ rule (ltb 1000000 n) StepCount
    ∷ rule (ltb 4294967295 (t.count + n)) StepCount
    ∷ rule (not (eqb (t.psw / 512 % 16) 0)) RecordBits
    ∷ rule (not (ltb t.cex 128)) RecordBits
    ∷ drop 5 (rules_of [] [] events 0)

two-tests : (t u : Bool) (v w : Result (Unit {0}) Refusal) → cond (not (t && u)) v w ≡ cond (not t) v (cond (not u) v w)
two-tests true u v w = refl
two-tests false u v w = refl

pub fields-verdict : (m : Machine) (vs : List Val) → Is T.the_row m vs → (memory events : List ℕ) (n : ℕ)
    → verdict_of memory (record_of (state_of m memory)) events n ≡ first_broken (field_rules m.rest memory events n)
unfolding verdict_of
fields-verdict m vs is memory events n =
    let b = bits m vs is in
    let s = state_of m memory in
    rw (
      record_size s,
      record-count s b.count,
      record-fits s b.psw b.cex,
      two-tests (eqb (m.rest.psw / 512 % 16) 0) (ltb m.rest.cex 128) (Err RecordBits) (first_broken (drop 5 (rules_of [] [] events 0))),
    )

pub count_fits : (m : Machine) (vs : List Val) → Is T.the_row m vs → (memory events : List ℕ) (n : ℕ)
    → Passed memory (record_of (state_of m memory)) events n → m.rest.count + n ≤ 4294967295
count_fits m vs is memory events n p = rw (← record-count (state_of m memory) (bits m vs is).count) p.count_fits
