-- The loop keeps that the rests of both words are the same exactly if the words are. Two equal bytes are one step of that; two others, or
-- the end of the first word, decide.
use mathlib.Core.Bool.{true, false, not}
use mathlib.Core.Path.{◌≡◌, refl, sym, ap, ◌∙◌}
use native.Mathlib.Omega.{arith}
use borrow.Author.Tests.{not-true, not-false}
use Rattle.asm_text.proofs.Laws.{same_stop, same-other, same_more, kind-in, name-zero}
use Rattle.asm_text.specs.Text.{byte_at, name_byte?}
use Rattle.asm_text.proofs.same_word.Goals as goal

pub returns-then-not-is_name_byte : goal.returns-then-not-is_name_byte
returns-then-not-is_name_byte c =
    let t = c.args.t.now in
    let s = c.args.s.now in
    let l = c.loop-p in
    let h : name_byte? (byte_at t l.i) ≡ false =
    sym (rw c.byte_at-a.ensures at c.is_name_byte.ensures) ∙ not-true _ c.if-not-is_name_byte.true-raw in
    let k = sym (rw c.byte_at-b.ensures at c.is_name_byte-then-not-is_name_byte.ensures) in
    ap not (sym k) ∙ sym (same_stop t l.i s l.j h) ∙ l.invariant

pub returns-then-a-b : goal.returns-then-a-b
returns-then-a-b c =
    let t = c.args.t.now in
    let s = c.args.s.now in
    let l = c.loop-p in
    let a = c.byte_at-a.ensures in
    let h : name_byte? (byte_at t l.i) ≡ true = sym (rw a at c.is_name_byte.ensures) ∙ not-false _ c.if-not-is_name_byte.false-raw in
    sym (same-other t l.i s l.j h (λ q. c.if-a-b.true (a ∙ q ∙ sym c.byte_at-b.ensures))) ∙ l.invariant

pub overflow_add-i : goal.overflow_add-i
overflow_add-i c =
    let t = c.args.t.now in
    let i = c.loop-p.i in
    let h : name_byte? (byte_at t i) ≡ true =
    sym (rw c.byte_at-a.ensures at c.is_name_byte.ensures) ∙ not-false _ c.if-not-is_name_byte.false-raw in
    let g = kind-in name_byte? name-zero t i h in
    omega arith

pub overflow_add-j : goal.overflow_add-j
overflow_add-j c =
    let t = c.args.t.now in
    let s = c.args.s.now in
    let l = c.loop-p in
    let a = c.byte_at-a.ensures in
    let h : name_byte? (byte_at t l.i) ≡ true = sym (rw a at c.is_name_byte.ensures) ∙ not-false _ c.if-not-is_name_byte.false-raw in
    let e : byte_at t l.i ≡ byte_at s l.j = sym a ∙ c.if-a-b.false ∙ c.byte_at-b.ensures in
    let g = kind-in name_byte? name-zero s l.j (sym (ap name_byte? e) ∙ h) in
    omega arith

pub loop-p-smaller : goal.loop-p-smaller
loop-p-smaller c =
    let t = c.args.t.now in
    let i = c.loop-p.i in
    let h : name_byte? (byte_at t i) ≡ true =
    sym (rw c.byte_at-a.ensures at c.is_name_byte.ensures) ∙ not-false _ c.if-not-is_name_byte.false-raw in
    let g = kind-in name_byte? name-zero t i h in
    omega arith

pub loop-p-preserved : goal.loop-p-preserved
loop-p-preserved c =
    let t = c.args.t.now in
    let s = c.args.s.now in
    let l = c.loop-p in
    let a = c.byte_at-a.ensures in
    let h : name_byte? (byte_at t l.i) ≡ true = sym (rw a at c.is_name_byte.ensures) ∙ not-false _ c.if-not-is_name_byte.false-raw in
    same_more t l.i s l.j h (sym a ∙ c.if-a-b.false ∙ c.byte_at-b.ensures) ∙ l.invariant

pub loop-p-init : goal.loop-p-init
loop-p-init c = refl
