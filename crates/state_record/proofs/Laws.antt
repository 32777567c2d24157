-- The state record's parts put together. Assumes nothing.
use Prim.Native.Nat.{ℕ, ◌+◌, ◌/◌, ◌%◌}
use mathlib.Core.Path.{◌≡◌, refl, ap, sym, ◌∙◌}
use mathlib.Core.List.{List, ◌∷◌, ◌++◌, append-nil}
use native.Mathlib.Nat.{div-div-eq-div-mul}
use native.Mathlib.Omega.{arith}
use lib.ListN.{length, drop_of_length-le}
use lib.Seq.{sets, sets-eq}
use Rattle.machine.specs.declared.Machine.{Machine}
use Rattle.machine.specs.State.{state_of}
use Rattle.machine.specs.Record.{count_byte, record_of}
use Rattle.state_record.specs.Bytes.{two, four, register_bytes, status_bytes, counts_bytes}

-- stores at every index leave what was stored
all_set : (l vs : List ℕ) → length vs ≡ length l → sets l 0 vs ≡ vs
all_set l vs e =
    sets-eq vs l 0 (omega arith)
    ∙ ap (λ (r : List ℕ). vs ++ r) (drop_of_length-le l {i = 0 + length vs} (omega arith))
    ∙ append-nil vs

-- the bytes of a number's two halves are its four bytes
pub halves : (n : ℕ) (l : List ℕ) → two (n % 65536) (two (n / 65536) l) ≡ four n l
halves n l =
    let b0 : n % 65536 % 256 ≡ count_byte n 1 = omega arith in
    let b1 : n % 65536 / 256 % 256 ≡ count_byte n 0x100 = omega arith in
    let b2 : n / 65536 % 256 ≡ count_byte n 0x10000 = refl in
    let b3 : n / 65536 / 256 % 256 ≡ count_byte n 0x1000000 = ap (λ (q : ℕ). q % 256) (div-div-eq-div-mul n 65536 256) in
    λ i. b0 i ∷ b1 i ∷ b2 i ∷ b3 i ∷ l

pub whole-record : (l a b c : List ℕ) (m : Machine) (mem : List ℕ) → length l ≡ 32
    → a ≡ sets l 0 (register_bytes m.regs)
    → b ≡ sets a 16 (status_bytes m.rest.psw m.rest.cex m.rest.halted)
    → c ≡ sets b 22 (counts_bytes m.rest.count m.rest.lines)
    → c ≡ record_of (state_of m mem)
unfolding record_of
whole-record l a b c m mem h e1 e2 e3 =
    let e : c ≡ sets l 0 (record_of (state_of m mem)) = rw (e3, e2, e1) in
    e ∙ all_set l (record_of (state_of m mem)) (sym h)
