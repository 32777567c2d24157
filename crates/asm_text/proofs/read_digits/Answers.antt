-- The loop keeps that the digits from here on, after what was read, say what all of them say, cut at 2^32, and end at the same place. A
-- digit is one step of both; the first byte that is none ends them.
use Rattle.std.specs.Prelude.{None}
use lib.ListN.{drop}
use Prim.Native.Nat.{◌<◌, ◌≤◌, ◌+◌}
use Rattle.asm_text.proofs.Laws.{sat, sat-numeral, digit-in, sat-more, sat-stop, digits_more, digits-stop, some-digit, none-digit}
use Rattle.asm_text.specs.Text.{byte_at, digit_of}
use mathlib.Core.Path.{◌≡◌, sym, ap, ◌∙◌}
use native.Mathlib.Omega.{arith}
use borrow.Author.Rules.{rules}
use Rattle.asm_text.proofs.read_digits.Goals as goal

pub returns-in-loop-d : goal.returns-in-loop-d
returns-in-loop-d c =
    let a = c.args in
    let l = c.loop-d in
    let n : c.digit.result ≡ None = search rules in
    let e = rw (n, c.byte_at.ensures) at c.digit.ensures in
    let d : a.base ≤ digit_of (byte_at a.s.now l.next) = none-digit a.base _ (omega arith) e in record {
      next_value = sym (digits-stop a.base a.s.now l.next d) ∙ l.invariant.2;
      size_value = sym (sat-stop a.base a.s.now l.next l.value d)
          ∙ l.invariant.1
          ∙ sat-numeral a.base (omega arith) 0 (drop a.at a.s.now);
    }

pub returns-else-d-base : goal.returns-else-d-base
returns-else-d-base c =
    let a = c.args in
    let l = c.loop-d in
    let e = some-digit _ _ (rw c.byte_at.ensures at c.in-Some.ensures) in
    let d : a.base ≤ digit_of (byte_at a.s.now l.next) = rw e at c.if-d-base.false in record {
      next_value = sym (digits-stop a.base a.s.now l.next d) ∙ l.invariant.2;
      size_value = sym (sat-stop a.base a.s.now l.next l.value d)
          ∙ l.invariant.1
          ∙ sat-numeral a.base (omega arith) 0 (drop a.at a.s.now);
    }

pub overflow_add-next : goal.overflow_add-next
overflow_add-next c =
    let e = some-digit _ _ (rw c.byte_at.ensures at c.in-Some.ensures) in
    let d : digit_of (byte_at c.args.s.now c.loop-d.next) < c.args.base = rw e at c.if-d-base.true in
    let h = digit-in c.args.base c.args.s.now c.loop-d.next (omega arith) d in omega arith

pub loop-d-smaller : goal.loop-d-smaller
loop-d-smaller c =
    let e = some-digit _ _ (rw c.byte_at.ensures at c.in-Some.ensures) in
    let d : digit_of (byte_at c.args.s.now c.loop-d.next) < c.args.base = rw e at c.if-d-base.true in
    let h = digit-in c.args.base c.args.s.now c.loop-d.next (omega arith) d in omega arith

pub loop-d-preserved : goal.loop-d-preserved
loop-d-preserved c =
    let a = c.args in
    let l = c.loop-d in
    let e = some-digit _ _ (rw c.byte_at.ensures at c.in-Some.ensures) in
    let d : digit_of (byte_at a.s.now l.next) < a.base = rw e at c.if-d-base.true in
    let g = rw e at c.grow-value.ensures.value in (
      c.grow-value.ensures.upper_bound,
      ap (λ n. sat a.base n (drop (l.next + 1) a.s.now)) g ∙ sat-more a.base a.s.now l.next l.value (omega arith) d
          ∙ l.invariant.1,
      digits_more a.base a.s.now l.next (omega arith) d ∙ l.invariant.2,
    )
