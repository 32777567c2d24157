-- The first byte decides as in `plain_at`: a letter begins a name, # and $ a number, any other byte nothing. Each way out rewrites the
-- definition by the tests on the way, and what is left is the callee's equation.
use mathlib.Core.Bool.{true, false}
use mathlib.Core.Path.{sym, ap, ◌∙◌}
use Rattle.std.specs.Prelude.{Err}
use Prim.Native.Nat.{◌+◌}
use native.Mathlib.Omega.{arith}
use Rattle.asm_value.specs.declared.Lack.TheVariants.{Unknown}
use Rattle.asm_text.specs.Text.{values_in}
use Rattle.asm_expr.specs.Meaning.{answer_of}
use Rattle.asm_expr.proofs.Laws.{plain-name, plain-minus, plain-ten, plain-sixteen, plain-none, digits-any, byte-is-in}
use Rattle.asm_expr.proofs.plain.Goals as goal

pub returns-then-is_letter : goal.returns-then-is_letter
returns-then-is_letter c =
    let start = c in
    let is-letter = c.is_letter in
    let byte-at = c.byte_at-b in
    let s = start.args.s.now in
    let f = values_in start.args.names.now in
    c.named.ensures
    ∙ ap (answer_of f) (sym (plain-name s start.args.at byte-at.result byte-at.ensures (sym is-letter.ensures
    ∙ c.if-is_letter.true)))

pub overflow_add-at : goal.overflow_add-at
overflow_add-at c =
    let at-start = c in
    let byte-at = c.byte_at-b in
    let h = byte-is-in at-start.args.s.now at-start.args.at 34 (sym byte-at.ensures ∙ c.if-b-eq35.true) in omega arith

pub overflow_add-at-then-byte_at-eq45 : goal.overflow_add-at-then-byte_at-eq45
overflow_add-at-then-byte_at-eq45 c =
    let start = c in
    let h = byte-is-in start.args.s.now (start.args.at + 1) 44 (sym c.byte_at.ensures ∙ c.if-byte_at-eq45.true) in omega arith

pub returns-then-byte_at-eq45 : goal.returns-then-byte_at-eq45
returns-then-byte_at-eq45 c =
    let start = c in
    let at-byte-at = c in
    let at-is-letter = c in
    let byte-at2 = c.byte_at in
    let if2 = c.if-b-eq35 in
    let if1 = c.if-is_letter in
    let s = start.args.s.now in
    let f = values_in start.args.names.now in
    let b = at-byte-at.byte_at-b.ensures in
    let n = sym at-is-letter.is_letter.ensures ∙ if1.false in
    c.literal.ensures ∙ digits-any f (λ _. Err Unknown) true 10 s (start.args.at + 2)
    ∙ ap (answer_of f) (sym (plain-minus s start.args.at at-byte-at.byte_at-b.result b byte-at2.result n if2.true
    byte-at2.ensures c.if-byte_at-eq45.true))

pub overflow_add-at-then-b-eq35 : goal.overflow_add-at-then-b-eq35
overflow_add-at-then-b-eq35 c =
    let at-start = c in
    let at-byte-at = c in
    let if2 = c.if-b-eq35 in
    let h = byte-is-in at-start.args.s.now at-start.args.at 34 (sym at-byte-at.byte_at-b.ensures ∙ if2.true) in omega arith

pub returns-then-b-eq35 : goal.returns-then-b-eq35
returns-then-b-eq35 c =
    let start = c in
    let at-byte-at = c in
    let at-is-letter = c in
    let byte-at2 = c.byte_at in
    let if2 = c.if-b-eq35 in
    let if1 = c.if-is_letter in
    let s = start.args.s.now in
    let f = values_in start.args.names.now in
    let b = at-byte-at.byte_at-b.ensures in
    let n = sym at-is-letter.is_letter.ensures ∙ if1.false in
    c.literal-then-b-eq35.ensures ∙ digits-any f (λ _. Err Unknown) false 10 s (start.args.at + 1)
    ∙ ap (answer_of f) (sym (plain-ten s start.args.at at-byte-at.byte_at-b.result b byte-at2.result n if2.true
    byte-at2.ensures c.if-byte_at-eq45.false))

pub overflow_add-at-then-b-eq36 : goal.overflow_add-at-then-b-eq36
overflow_add-at-then-b-eq36 c =
    let at-start = c in
    let byte-at = c.byte_at-b in
    let h = byte-is-in at-start.args.s.now at-start.args.at 35 (sym byte-at.ensures ∙ c.if-b-eq36.true) in omega arith

pub returns-then-b-eq36 : goal.returns-then-b-eq36
returns-then-b-eq36 c =
    let start = c in
    let at-byte-at = c in
    let if2 = c.if-b-eq35 in
    let if1 = c.if-is_letter in
    let is-letter = c.is_letter in
    let s = start.args.s.now in
    let f = values_in start.args.names.now in
    let b = at-byte-at.byte_at-b.ensures in
    let n = sym is-letter.ensures ∙ if1.false in
    c.literal-then-b-eq36.ensures ∙ digits-any f (λ _. Err Unknown) false 16 s (start.args.at + 1)
    ∙ ap (answer_of f) (sym (plain-sixteen s start.args.at at-byte-at.byte_at-b.result b n if2.false c.if-b-eq36.true))

pub returns : goal.returns
unfolding answer_of
returns c =
    let start = c in
    let if1 = c.if-is_letter in
    let is-letter = c.is_letter in
    let byte-at = c.byte_at-b in
    let s = start.args.s.now in
    let f = values_in start.args.names.now in
    let b = byte-at.ensures in
    let n = sym is-letter.ensures ∙ if1.false in
    ap (answer_of f) (sym (plain-none s start.args.at byte-at.result b n c.if-b-eq35.false c.if-b-eq36.false))
