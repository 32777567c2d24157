-- Each answer is the law of its turn: a part that fails, a sign that ends the chain, and a part that follows a sign.
use mathlib.Core.Path.{◌≡◌, sym, ap, ◌∙◌, subst}
use Prim.Native.Nat.{◌+◌, ◌-◌}
use native.Mathlib.Omega.{arith}
use Rattle.std.specs.Prelude.{ℤ, Result}
use Rattle.asm_value.specs.declared.Lack.{Lack}
use Rattle.asm_text.specs.Text.{values_in, byte_at, blank?, after}
use Rattle.asm_expr.specs.Grammar.{follow, closed, plain_at, plus?, times?, parts_of, factor_of, term_of, expression_of}
use Rattle.asm_expr.specs.Meaning.{answer_of, shut}
use Rattle.asm_expr.proofs.Laws.{reach-factor, reach-term, plus-zero, times_zero, Going, going-none, going_start, going-sign}
use Rattle.asm_expr.proofs.Laws.{going-ahead}
use Rattle.asm_expr.proofs.Laws.{turn-stop, turn-fail, turn_more, shut-follow, factor-deep, factor-bracket, factor-plain}
use Rattle.asm_expr.proofs.+expression_factor_term.Goals as goal

pub expression-returns-in_err-so_far : goal.expression-returns-in_err-so_far
unfolding expression_of
expression-returns-in_err-so_far t c =
    let a = c.args in
    let s = a.s.now in
    let f = values_in a.names.now in
    c.from_residual.ensures ∙ going-none f plus? (term_of a.left s) s a.at (sym c.in_err-so_far.ensures)

pub expression-loop-so_far-init : goal.expression-loop-so_far-init
expression-loop-so_far-init t c =
    let a = c.args in
    let s = a.s.now in
    let f = values_in a.names.now in
    going_start f plus? (term_of a.left s) s a.at c.in_ok-so_far.so_far.next c.in_ok-so_far.so_far.value (reach-term a.left s a.at)
    (sym c.in_ok-so_far.ensures)

pub expression-returns-then-not-is_plus : goal.expression-returns-then-not-is_plus
unfolding expression_of
expression-returns-then-not-is_plus t c =
    let a = c.args in
    let s = a.s.now in
    let f = values_in a.names.now in
    let l = c.loop-so_far in
    turn-stop f plus? (term_of a.left s) s l.so_far.next c.skip_blanks-q.result c.byte_at-sign.result l.so_far.value
    (answer_of f (parts_of plus? (term_of a.left s) s a.at)) c.skip_blanks-q.ensures c.byte_at-sign.ensures l.invariant
    (sym c.is_plus.ensures ∙ c.if-not-is_plus.true)

pub expression-overflow_add-q : goal.expression-overflow_add-q
expression-overflow_add-q t c =
    let a = c.args in
    let s = a.s.now in
    let f = values_in a.names.now in
    let h = going-sign f plus? (term_of a.left s) s plus-zero c.skip_blanks-q.result
    (ap plus? (sym c.byte_at-sign.ensures) ∙ sym c.is_plus.ensures ∙ c.if-not-is_plus.false) in
    omega arith

pub expression-returns-in_err-part : goal.expression-returns-in_err-part
unfolding expression_of
expression-returns-in_err-part t c =
    let a = c.args in
    let s = a.s.now in
    let f = values_in a.names.now in
    let l = c.loop-so_far in
    c.from_residual-in_err-part.ensures
    ∙ turn-fail f plus? (term_of a.left s) s plus-zero l.so_far.next c.skip_blanks-q.result c.byte_at-sign.result
    l.so_far.value (answer_of f (parts_of plus? (term_of a.left s) s a.at)) c.skip_blanks-q.ensures c.byte_at-sign.ensures l.invariant
    (sym c.is_plus.ensures ∙ c.if-not-is_plus.false) (sym c.in_err-part.ensures)

pub expression-loop-so_far-smaller : goal.expression-loop-so_far-smaller
expression-loop-so_far-smaller t c =
    let a = c.args in
    let s = a.s.now in
    let f = values_in a.names.now in
    let q = c.skip_blanks-q.result in
    let g = c.in_ok-part in
    let h = going-ahead f plus? (term_of a.left s) s c.loop-so_far.so_far.next q g.part.next g.part.value
    c.skip_blanks-q.ensures (reach-term a.left s (q + 1)) (sym g.ensures) in
    omega (arith, h.0, h.1)

pub expression-loop-so_far-preserved : goal.expression-loop-so_far-preserved
expression-loop-so_far-preserved t c =
    let a = c.args in
    let s = a.s.now in
    let f = values_in a.names.now in
    let q = c.skip_blanks-q.result in
    let g = c.in_ok-part in
    let l = c.loop-so_far in
    subst (λ (x : Result ℤ Lack). Going f plus? (term_of a.left s) s x g.part.next (answer_of f (parts_of plus? (term_of a.left s) s a.at)))
    (sym c.combine-so_far.ensures)
    (turn_more f plus? (term_of a.left s) s plus-zero l.so_far.next q c.byte_at-sign.result g.part.next l.so_far.value g.part.value
    (answer_of f (parts_of plus? (term_of a.left s) s a.at)) c.skip_blanks-q.ensures c.byte_at-sign.ensures
    l.invariant (sym c.is_plus.ensures ∙ c.if-not-is_plus.false) (reach-term a.left s (q + 1))
    (sym g.ensures))

pub term-returns-in_err-so_far : goal.term-returns-in_err-so_far
unfolding term_of
term-returns-in_err-so_far t c =
    let a = c.args in
    let s = a.s.now in
    let f = values_in a.names.now in
    c.from_residual.ensures ∙ going-none f times? (factor_of a.left s) s a.at (sym c.in_err-so_far.ensures)

pub term-loop-so_far-init : goal.term-loop-so_far-init
term-loop-so_far-init t c =
    let a = c.args in
    let s = a.s.now in
    let f = values_in a.names.now in
    going_start f times? (factor_of a.left s) s a.at c.in_ok-so_far.so_far.next c.in_ok-so_far.so_far.value (reach-factor a.left s a.at)
    (sym c.in_ok-so_far.ensures)

pub term-returns-then-not-is_times : goal.term-returns-then-not-is_times
unfolding term_of
term-returns-then-not-is_times t c =
    let a = c.args in
    let s = a.s.now in
    let f = values_in a.names.now in
    let l = c.loop-so_far in
    turn-stop f times? (factor_of a.left s) s l.so_far.next c.skip_blanks-q.result c.byte_at-sign.result l.so_far.value
    (answer_of f (parts_of times? (factor_of a.left s) s a.at)) c.skip_blanks-q.ensures c.byte_at-sign.ensures l.invariant
    (sym c.is_times.ensures ∙ c.if-not-is_times.true)

pub term-overflow_add-q : goal.term-overflow_add-q
term-overflow_add-q t c =
    let a = c.args in
    let s = a.s.now in
    let f = values_in a.names.now in
    let h = going-sign f times? (factor_of a.left s) s times_zero c.skip_blanks-q.result
    (ap times? (sym c.byte_at-sign.ensures) ∙ sym c.is_times.ensures ∙ c.if-not-is_times.false) in
    omega arith

pub term-returns-in_err-part : goal.term-returns-in_err-part
unfolding term_of
term-returns-in_err-part t c =
    let a = c.args in
    let s = a.s.now in
    let f = values_in a.names.now in
    let l = c.loop-so_far in
    c.from_residual-in_err-part.ensures
    ∙ turn-fail f times? (factor_of a.left s) s times_zero l.so_far.next c.skip_blanks-q.result c.byte_at-sign.result
    l.so_far.value (answer_of f (parts_of times? (factor_of a.left s) s a.at)) c.skip_blanks-q.ensures c.byte_at-sign.ensures l.invariant
    (sym c.is_times.ensures ∙ c.if-not-is_times.false) (sym c.in_err-part.ensures)

pub term-loop-so_far-smaller : goal.term-loop-so_far-smaller
term-loop-so_far-smaller t c =
    let a = c.args in
    let s = a.s.now in
    let f = values_in a.names.now in
    let q = c.skip_blanks-q.result in
    let g = c.in_ok-part in
    let h = going-ahead f times? (factor_of a.left s) s c.loop-so_far.so_far.next q g.part.next g.part.value
    c.skip_blanks-q.ensures (reach-factor a.left s (q + 1)) (sym g.ensures) in
    omega (arith, h.0, h.1)

pub term-loop-so_far-preserved : goal.term-loop-so_far-preserved
term-loop-so_far-preserved t c =
    let a = c.args in
    let s = a.s.now in
    let f = values_in a.names.now in
    let q = c.skip_blanks-q.result in
    let g = c.in_ok-part in
    let l = c.loop-so_far in
    subst (λ (x : Result ℤ Lack). Going f times? (factor_of a.left s) s x g.part.next (answer_of f (parts_of times?
    (factor_of a.left s) s a.at)))
    (sym c.combine-so_far.ensures)
    (turn_more f times? (factor_of a.left s) s times_zero l.so_far.next q c.byte_at-sign.result g.part.next l.so_far.value g.part.value
    (answer_of f (parts_of times? (factor_of a.left s) s a.at)) c.skip_blanks-q.ensures c.byte_at-sign.ensures
    l.invariant (sym c.is_times.ensures ∙ c.if-not-is_times.false) (reach-factor a.left s (q + 1))
    (sym g.ensures))

pub factor-returns-then-left-eq0 : goal.factor-returns-then-left-eq0
unfolding answer_of
factor-returns-then-left-eq0 t c =
    let a = c.args in
    let s = a.s.now in
    let f = values_in a.names.now in
    let h : byte_at s (after blank? s a.at) ≡ 40 = ap (byte_at s) (sym c.skip_blanks-q.ensures) ∙ sym c.byte_at.ensures
    ∙ c.if-byte_at-eq40.true in
    sym (ap (λ k. answer_of f (factor_of k s a.at)) c.if-left-eq0.true ∙ ap (answer_of f) (factor-deep s a.at h))

pub factor-returns-in_err-inner : goal.factor-returns-in_err-inner
unfolding shut
factor-returns-in_err-inner t c =
    let a = c.args in
    let s = a.s.now in
    let f = values_in a.names.now in
    let h : byte_at s (after blank? s a.at) ≡ 40 = ap (byte_at s) (sym c.skip_blanks-q.ensures) ∙ sym c.byte_at.ensures
    ∙ c.if-byte_at-eq40.true in
    let q = c.skip_blanks-q.result in
    c.from_residual.ensures ∙ ap (shut s) c.in_err-inner.ensures ∙ shut-follow f s (expression_of (a.left - 1) s (q + 1))
    ∙ ap (λ k. answer_of f (follow (expression_of (a.left - 1) s (k + 1)) (closed s))) c.skip_blanks-q.ensures
    ∙ ap (answer_of f) (sym (factor-bracket a.left s a.at c.if-left-eq0.false h))

pub factor-returns-then-byte_at-eq40 : goal.factor-returns-then-byte_at-eq40
factor-returns-then-byte_at-eq40 t c =
    let a = c.args in
    let s = a.s.now in
    let f = values_in a.names.now in
    let h : byte_at s (after blank? s a.at) ≡ 40 = ap (byte_at s) (sym c.skip_blanks-q.ensures) ∙ sym c.byte_at.ensures
    ∙ c.if-byte_at-eq40.true in
    let q = c.skip_blanks-q.result in
    c.close.ensures ∙ ap (shut s) c.in_ok-inner.ensures ∙ shut-follow f s (expression_of (a.left - 1) s (q + 1))
    ∙ ap (λ k. answer_of f (follow (expression_of (a.left - 1) s (k + 1)) (closed s))) c.skip_blanks-q.ensures
    ∙ ap (answer_of f) (sym (factor-bracket a.left s a.at c.if-left-eq0.false h))

pub factor-returns : goal.factor-returns
factor-returns t c =
    let a = c.args in
    let s = a.s.now in
    let f = values_in a.names.now in
    c.plain.ensures ∙ ap (λ k. answer_of f (plain_at s k)) c.skip_blanks-q.ensures
    ∙ ap (answer_of f) (sym (factor-plain a.left s a.at
    (λ z. c.if-byte_at-eq40.false (c.byte_at.ensures ∙ ap (byte_at s) c.skip_blanks-q.ensures ∙ z))))
