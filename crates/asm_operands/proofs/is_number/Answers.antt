use mathlib.Core.Path.{◌≡◌, sym, ap, ◌∙◌}
use Rattle.std.specs.Prelude.{Err}
use Rattle.asm_value.specs.declared.Lack.TheVariants.{Unknown, Outside}
use Rattle.asm_operands.proofs.Laws.{known?, number-told}
use Rattle.asm_operands.proofs.is_number.Goals as goal

pub returns-in_default : goal.returns-in_default
returns-in_default c = number-told c.args.line.now c.args.line.now c.args.at c.in_default.ensures

pub returns-in-Err-Unknown : goal.returns-in-Err-Unknown
returns-in-Err-Unknown c =
    let k = rw c.in-Err-Unknown.is at c.in-Err-Unknown.field-0-is in
    let e : c.in-Some.read.value ≡ Err Unknown = c.in-Err-Unknown.is ∙ ap Err k in
    sym (ap known? e) ∙ number-told c.args.line.now c.args.line.now c.args.at c.in-Some.ensures

pub returns-in-Err-Outside : goal.returns-in-Err-Outside
returns-in-Err-Outside c =
    let k = rw c.in-Err-Outside.is at c.in-Err-Outside.field-0-is in
    let e : c.in-Some.read.value ≡ Err Outside = c.in-Err-Outside.is ∙ ap Err k in
    sym (ap known? e) ∙ number-told c.args.line.now c.args.line.now c.args.at c.in-Some.ensures

pub returns-in-Ok : goal.returns-in-Ok
returns-in-Ok c = sym (ap known? c.in-Ok.is) ∙ number-told c.args.line.now c.args.line.now c.args.at c.in-Some.ensures
