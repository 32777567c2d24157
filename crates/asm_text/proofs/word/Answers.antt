use mathlib.Core.Path.{ap, ◌∙◌}
use lib.ListN.{length, take}
use Rattle.std.specs.List.{prefix_len}
use Rattle.std.proofs.lemmas.List.Folds.{length-prefix_len}
use Rattle.asm_text.specs.Text.{name_byte?, word}
use Rattle.asm_text.proofs.Laws.{word-is, after-is}
use Rattle.asm_text.proofs.word.Goals as goal

pub returns-clause-value : goal.returns-clause-value
returns-clause-value c =
    let r = c.rest-r.result.now in
    ap (λ n. take n r) c.name_bytes.ensures.value ∙ word-is r ∙ ap word c.rest-r.ensures

pub returns-clause-next_value : goal.returns-clause-next_value
returns-clause-next_value c =
    let r = c.rest-r.result.now in
    after-is name_byte? c.args.s.now c.args.at (length (take c.name_bytes.result r)) (ap (λ n. length (take n r)) c.name_bytes.ensures.value
    ∙ length-prefix_len name_byte? r ∙ ap (prefix_len name_byte?) c.rest-r.ensures)
