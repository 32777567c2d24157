use mathlib.Core.Path.{◌≡◌, ap, ◌∙◌}
use Prim.Native.Nat.{◌+◌, ◌-◌}
use Rattle.std.specs.Prelude.{Some, None}
use native.Mathlib.Omega.{arith}
use Rattle.asm_text.specs.Text.{spelled, spelled_from}
use Rattle.asm_text.proofs.Laws.{both_true}
use Rattle.asm_words.specs.Words.{each, registers}
use Rattle.asm_words.proofs.Laws.{spelled_in, register-at, register-by-number, register-none}
use Rattle.asm_words.proofs.register_number.Goals as goal

pub overflow_sub-result : goal.overflow_sub-result
overflow_sub-result c = let h = both_true 0x5230 c.args.p 0x5237 c.if-p.true in h.0

pub overflow_cast-result : goal.overflow_cast-result
overflow_cast-result c = let h = both_true 0x5230 c.args.p 0x5237 c.if-p.true in omega arith

-- R0 to R7
pub returns-then-p : goal.returns-then-p
returns-then-p c =
    let p = c.args.p in
    let h = both_true 0x5230 p 0x5237 c.if-p.true in
    let e : 0x5230 + (p - 0x5230) ≡ p = omega (arith, h.0) in
    register-at p (Some (p - 0x5230)) (register-by-number (p - 0x5230) (omega (arith, h.0, h.1))
    ∙ ap (spelled_in None (each Some registers)) e)

-- BP
pub returns-then-p-eq16976 : goal.returns-then-p-eq16976
unfolding spelled_in registers spelled spelled_from
returns-then-p-eq16976 c = register-at c.args.p (Some 4) (rw c.if-p-eq16976.true)

-- LR
pub returns-then-p-eq19538 : goal.returns-then-p-eq19538
unfolding spelled_in registers spelled spelled_from
returns-then-p-eq19538 c = register-at c.args.p (Some 5) (rw c.if-p-eq19538.true)

-- SP
pub returns-then-p-eq21328 : goal.returns-then-p-eq21328
unfolding spelled_in registers spelled spelled_from
returns-then-p-eq21328 c = register-at c.args.p (Some 6) (rw c.if-p-eq21328.true)

-- PC
pub returns-then-p-eq20547 : goal.returns-then-p-eq20547
unfolding spelled_in registers spelled spelled_from
returns-then-p-eq20547 c = let start = c in register-at start.args.p (Some 7) (rw c.if-p-eq20547.true)

pub returns : goal.returns
returns c =
    let if3 = c.if-p-eq19538 in
    let if2 = c.if-p-eq16976 in
    let at-if1 = c in
    let p = at-if1.args.p in
    register-at p None (register-none p at-if1.if-p.false if2.false if3.false c.if-p-eq21328.false c.if-p-eq20547.false)
