-- The loop's invariant: the verdict on the lines from `at` on, counted from `number`, is the verdict on the text. The line at `at` is
-- refused, ends the text, or leaves the verdict to the lines after it; with none left the last line is missing. Assumes nothing.
use Rattle.std.proofs.Common.{refl, sym, ap, ◌∙◌, arith}
use Rattle.text_lines.proofs.Laws.{lines_end}
use Rattle.srec.specs.Load.{verdict_from}
use Rattle.srec.proofs.Laws.{verdict-missing, fault-none}
use Rattle.srec_load.proofs.Laws.{judge-fault, judge-end, judge-more}
use Rattle.srec_load.proofs.judge.Goals as goal

pub returns-in-Err : goal.returns-in-Err
returns-in-Err c =
    judge-fault c.args.text.now _ _ _ c.line_at-l.ensures c.loop-at.number _ c.in-Err.ensures
    ∙ c.loop-at.invariant.same

pub kind-requires : goal.kind-requires
kind-requires c = let h = fault-none _ _ (sym c.in_default.ensures) in omega arith

pub returns-then-kind-eq57 : goal.returns-then-kind-eq57
returns-then-kind-eq57 c =
    judge-end c.args.text.now _ _ _ c.line_at-l.ensures c.loop-at.number c.in_default.ensures
    (sym c.kind.ensures ∙ c.if-kind-eq57.true)
    ∙ c.loop-at.invariant.same

pub loop-at-preserved : goal.loop-at-preserved
loop-at-preserved c =
    let e =
    judge-more c.args.text.now _ _ _ c.line_at-l.ensures c.loop-at.number c.in_default.ensures
    (λ z. c.if-kind-eq57.false (c.kind.ensures ∙ z)) in
    record { inside = omega arith; few = omega arith; same = e ∙ c.loop-at.invariant.same }

pub returns : goal.returns
returns c =
    verdict-missing c.loop-at.number
    ∙ ap (verdict_from c.loop-at.number) (sym (lines_end c.args.text.now c.loop-at.at (omega arith)))
    ∙ c.loop-at.invariant.same

pub loop-at-init : goal.loop-at-init
loop-at-init c = record { inside = omega arith; few = omega arith; same = refl }
