-- The loop keeps that the rest of the word, after the bytes read so far, has the spelling and the key of the whole word.
use mathlib.Core.Path.{refl, sym, ap, ◌∙◌}
use Prim.Native.Nat.{◌+◌}
use lib.ListN.{drop}
use native.Mathlib.Omega.{arith}
use Rattle.asm_text.specs.Text.{spelled, spelled_from, key_of, key_from}
use Rattle.asm_text.proofs.Laws.{spelled-more, spelled-stop, key_more, key-stop}
use Rattle.asm_text.proofs.read_word.Goals as goal

pub loop-b-init : goal.loop-b-init
unfolding spelled key_of
loop-b-init c = (omega arith, refl, refl)

pub loop-b-preserved : goal.loop-b-preserved
loop-b-preserved c =
    let w = c.word-w.result.now in
    let l = c.loop-b in (
      c.spell-spelled.ensures.upper_bound,
      ap (λ n. spelled_from n (drop (l.b-index + 1) w)) c.spell-spelled.ensures.value
          ∙ spelled-more w l.b-index l.spelled c.loop-b-test.true ∙ l.invariant.1,
      ap (λ n. key_from n (drop (l.b-index + 1) w)) c.mix-key.ensures
          ∙ key_more w l.b-index l.key c.loop-b-test.true ∙ l.invariant.2,
    )

pub returns : goal.returns
returns c =
    let w = c.word-w.result.now in
    let l = c.loop-b in record {
      next_value = c.word-w.ensures.next_value;
      spelled_value = sym (spelled-stop w l.b-index l.spelled c.loop-b-test.false) ∙ l.invariant.1 ∙ ap spelled c.word-w.ensures.value;
      key_value = sym (key-stop w l.b-index l.key c.loop-b-test.false) ∙ l.invariant.2 ∙ ap key_of c.word-w.ensures.value;
    }
