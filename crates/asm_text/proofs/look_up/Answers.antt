use Rattle.std.specs.Prelude.{Ok}
use mathlib.Core.Path.{◌≡◌, sym, ap, ◌∙◌}
use Rattle.asm_text.specs.Text.{word}
use Rattle.asm_text.proofs.Laws.{look_hit, look-key, look-word, look-end}
use lib.ListN.{drop, get_or}
use borrow.Author.Rules.{rules}
use mir.Syntax.{w32}
use mir.Val.{to_z, of_z}
use Rattle.asm_text.proofs.look_up.Goals.{else-n-key-via-then-n-key+else-same_word, else-n-key-via-else-n-key}
use Rattle.asm_text.proofs.look_up.Goals as goal

pub returns-then-same_word : goal.returns-then-same_word
returns-then-same_word c =
    let l = c.args.names.now.list.now in
    let e : to_z w32 (of_z w32 (get_or l c.loop-n.n-index _).value) ≡ (get_or l c.loop-n.n-index _).value = search rules in
    ap Ok e ∙ sym (look_hit c.args.names.now.source.now l (word (drop c.args.at c.args.s.now)) c.loop-n.n-index _ c.loop-n-test.true
    (c.if-n-key.true ∙ c.requires) (sym c.same_word.ensures ∙ c.if-same_word.true)) ∙ c.loop-n.invariant

pub returns : goal.returns
returns c =
    sym (look-end c.args.names.now.source.now c.args.names.now.list.now (word (drop c.args.at c.args.s.now)) c.loop-n.n-index
    c.loop-n-test.false) ∙ c.loop-n.invariant

pub loop-n-preserved : goal.loop-n-preserved
loop-n-preserved c =
    let a = c.args in
    elim c.else-n-key.branch [
      | else-n-key-via-then-n-key+else-same_word w ↦ look-word a.names.now.source.now a.names.now.list.now (word (drop a.at a.s.now))
          c.loop-n.n-index _ c.loop-n-test.true (sym w.same_word.ensures ∙ w.if-same_word.false) ∙ c.loop-n.invariant
      | else-n-key-via-else-n-key w ↦ look-key a.names.now.source.now a.names.now.list.now (word (drop a.at a.s.now))
          c.loop-n.n-index _ c.loop-n-test.true (λ e. w.if-n-key.false (e ∙ sym c.requires)) ∙ c.loop-n.invariant
    ]
