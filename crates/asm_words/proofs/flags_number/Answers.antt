-- The loop keeps that the letters from here on, after the flags read so far, give the flags of the whole word. A letter is one step of
-- that, a letter that does not fit decides, and the word's end leaves the flags that were read, of which there must be one.
use mathlib.Core.Path.{refl, sym, ap, ◌∙◌}
use Prim.Native.Nat.{◌+◌}
use native.Mathlib.Omega.{arith}
use lib.ListN.{drop}
use Rattle.asm_words.specs.Words.{flags_from, some_flag, flags_of}
use Rattle.asm_words.proofs.Laws.{flags-stop, flags-fail, flags-more, flags-none, flags-some}
use Rattle.asm_words.proofs.flags_number.Goals as goal

pub loop-b-init : goal.loop-b-init
loop-b-init c = (omega arith, refl)

pub returns-in_err-f : goal.returns-in_err-f
unfolding flags_of some_flag
returns-in_err-f c =
    let l = c.loop-b in
    c.from_residual.ensures ∙ ap some_flag (flags-fail c.word-w.result.now l.b-index l.f c.loop-b-test.true c.in_err-f.ensures.value
    ∙ l.invariant.1) ∙ ap flags_of c.word-w.ensures.value

pub loop-b-preserved : goal.loop-b-preserved
loop-b-preserved c =
    let l = c.loop-b in
    let w = c.word-w.result.now in (
      c.in_ok-f.ensures.upper_bound,
      ap (λ o. flags_from o (drop (l.b-index + 1) w)) c.in_ok-f.ensures.value
          ∙ flags-more w l.b-index l.f c.loop-b-test.true ∙ l.invariant.1,
    )

pub returns-then-f-eq0 : goal.returns-then-f-eq0
unfolding flags_of
returns-then-f-eq0 c =
    let l = c.loop-b in
    flags-none _ l.f (sym l.invariant.1 ∙ flags-stop c.word-w.result.now l.b-index l.f c.loop-b-test.false) c.if-f-eq0.true
    ∙ ap flags_of c.word-w.ensures.value

pub returns-else-f-eq0 : goal.returns-else-f-eq0
unfolding flags_of
returns-else-f-eq0 c =
    let l = c.loop-b in
    flags-some _ l.f (sym l.invariant.1 ∙ flags-stop c.word-w.result.now l.b-index l.f c.loop-b-test.false) c.if-f-eq0.false
    ∙ ap flags_of c.word-w.ensures.value
