-- Every row of the starred cases holds: one test, which antt computes over the list. Assumes nothing.
use Prim.Native.Nat.{ℕ, suc, ◌+◌}
use mathlib.Core.Path.{◌≡◌, subst⁻¹, ◌∙◌}
use mathlib.Core.Bool.{Bool, true, false, ◌&&◌}
use mathlib.Core.List.Memᴰ
use mathlib.Core.List.{List, [], ◌∷◌, Memᴰ}
use mathlib.Core.Logic.{⊎_elim}
use lib.Dec.{T, eqb, eqb→eq}
use lib.ListN.{length, replicate, length-append, length-replicate}
use Rattle.word.specs.Width.{width_of}
use Rattle.alu.specs.Sums.{add_with_carry, overflow_of}
use Rattle.alu.specs.Decimal.{decimal_sum, digit_of, digit_carry}
use Rattle.alu.specs.Alu.{alu_of}
use Rattle.isa.specs.Decode.{decode_of}
use Rattle.machine.specs.State.{reg, sp, pc}
use Rattle.machine.specs.Memory.{low_byte, high_byte}
use Rattle.machine.specs.Devices.{deliver_at}
use Rattle.machine.specs.Entry.{best_from, vectored, entered_psw}
use Rattle.machine.specs.Effect.{binary_op, unary_op, effect_of, taken_of}
use Rattle.machine.specs.Step.{advanced, granted, interrupt_of, instruction_of, plan_of, perform, step_of}
use Rattle.machine_cases.specs.Cases.{Row, arithmetic, entry, branch, cases, memory, Says, test, after}

-- the memory of a case is one that a run takes. [01 State and memory]
pub memory-whole : (word : ℕ) → length (memory word) ≡ 65536
unfolding memory
memory-whole word =
    length-append (replicate 0x1000 0) (low_byte word ∷ high_byte word ∷ replicate 0xEFFE 0)
    ∙ (λ i. length-replicate {A = ℕ} 0x1000 0 i + suc (suc (length-replicate {A = ℕ} 0xEFFE 0 i)))

both : (a b : Bool) → T (a && b) → T a × T b
both true b t = (tt, t)
both false b t = absurd t

-- a row that passes its test holds
sound : (r : Row) → T (test r) → Says r
unfolding test
sound (arithmetic word d s p value psw) t =
    let c = after word s d 0 p in
    let h = both (eqb (reg c 1) value) (eqb c.psw psw) t in
    (eqb→eq (reg c 1) value h.0, eqb→eq c.psw psw h.1)
sound (entry word before to) t = eqb→eq (sp (after word 0 0 before 0)) to t
sound (branch word to) t = eqb→eq (pc (after word 0 0 0 0)) to t

abbrev every : List Row → Bool
every [] = true
every (r ∷ rs) = test r && every rs

all : T (every cases)
unfolding test memory after step_of deliver_at plan_of interrupt_of best_from instruction_of advanced decode_of effect_of granted perform
    binary_op unary_op taken_of width_of alu_of add_with_carry overflow_of decimal_sum digit_of digit_carry vectored entered_psw
all = tt

from : (rs : List Row) → T (every rs) → {r : Row} → Memᴰ r rs → Says r
from [] t m = absurd (Memᴰ.not-nil m)
from (x ∷ rs) t m =
    let h = both (test x) (every rs) t in
    ⊎_elim (λ e. subst⁻¹ Says e (sound x h.0)) (λ n. from rs h.1 n) (Memᴰ.cases_cons m)

-- Every starred case holds.
pub cases-hold : {r : Row} → Memᴰ r cases → Says r
cases-hold m = from cases all m
