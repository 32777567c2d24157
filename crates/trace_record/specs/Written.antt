-- A record from the numbers that the code holds: what stood before the step, the act, what it read, and PC and PSW
-- after it.
-- Assumes nothing.
use Rattle.std.specs.Prelude.{ℕ, cond, List, [], ◌∷◌}
use mir.Val.{bool_byte}
use Rattle.word.specs.Psw.{bit_of}
use Rattle.machine.specs.declared.Act.{Act}
use Rattle.machine.specs.declared.Act.TheVariants as act
use Rattle.machine.specs.Memory.{low_byte, high_byte, value_at}
use Rattle.machine.specs.Record.{count_byte}
use Rattle.trace.specs.Trace.{Entry, kind_of, operand_of}
use Rattle.trace_record.specs.declared.Before.{Before}
use Rattle.trace_record.specs.declared.Told.{Told}

-- a record from what stood before the step. [call trace]
abbrev pub entry_with : Before → (kind number address value : ℕ) → Entry
entry_with b k n a v =
    record { step = b.step; kind = k; number = n; address = a; value = v; pc = b.pc; sp = b.sp; psw = b.psw }

-- the first eight bytes of a record, and the last eight. [call trace]
abbrev pub head_bytes : (step kind number address : ℕ) → List ℕ
head_bytes n k d a =
    count_byte n 1 ∷ count_byte n 0x100 ∷ count_byte n 0x10000 ∷ count_byte n 0x1000000
    ∷ k ∷ d ∷ low_byte a ∷ high_byte a ∷ []

abbrev pub tail_bytes : (value pc sp psw : ℕ) → List ℕ
tail_bytes v p s w =
    low_byte v ∷ high_byte v ∷ low_byte p ∷ high_byte p ∷ low_byte s ∷ high_byte s ∷ low_byte w ∷ high_byte w ∷ []

-- the value that an act loads. [call trace]
abbrev pub seen_of : Act → List ℕ → ℕ
seen_of act.Stopped m = 0
seen_of act.Pull m = 0
seen_of (act.Chain d) m = 0
seen_of (act.Accept d) m = 0
seen_of act.Sleep m = 0
seen_of (act.Fault v) m = 0
seen_of act.Halt m = 0
seen_of act.Skip m = 0
seen_of (act.Trap v) m = 0
seen_of act.Plain m = 0
seen_of (act.Loads byte a d) m = value_at byte m a.0
seen_of (act.Stores byte a v) m = 0

abbrev pub told : (number address value : ℕ) → Told
told n a v = record { number = n; address = a; value = v }

-- number, address and value of an act. [call trace]
abbrev pub told_of : Act → (seen pc psw : ℕ) → Told
told_of act.Stopped x p w = told 0 0 0
told_of act.Pull x p w = told 0 p w
told_of (act.Chain d) x p w = told d p w
told_of (act.Accept d) x p w = told d p w
told_of act.Sleep x p w = told 0 0 0
told_of (act.Fault v) x p w = told v p w
told_of act.Halt x p w = told 0 0 0
told_of act.Skip x p w = told 0 0 0
told_of (act.Trap v) x p w = told v p w
told_of act.Plain x p w = told 0 0 0
told_of (act.Loads byte a d) x p w = told (bool_byte byte) a.0 x
told_of (act.Stores byte a v) x p w = told (bool_byte byte) a.0 (operand_of byte v)

-- the record of an act where its kind is asked for. [call trace]
abbrev pub act_written : Before → (kinds : ℕ) → Act → (seen pc psw : ℕ) → List Entry
act_written b ks a x p w =
    let t = told_of a x p w in
    cond (bit_of (kind_of a) ks) (entry_with b (kind_of a) t.number t.address t.value ∷ []) []
