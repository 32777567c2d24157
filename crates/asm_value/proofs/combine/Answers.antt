use Rattle.std.specs.Prelude.{ℕ, ℤ, Result, Ok, Err}
use Rattle.std.specs.Result.{result_and}
use Rattle.asm_value.specs.declared.Lack.{Lack}
use Rattle.asm_value.specs.declared.Lack.TheVariants.{Outside}
use Rattle.asm_value.specs.Value.{joined}
use mathlib.Core.Path.{◌≡◌, ◌∙◌, refl}
use Rattle.std.proofs.lemmas.Result.{err_from_is_err_and}
use mir.Syntax.{w32}
use mir.Val.{to_z, of_z}
use borrow.Author.Rules.{rules}
use Rattle.asm_value.proofs.combine.Goals as goal

-- after a value outside 32 bits
unknown_first : (op : ℕ) (b : Result ℤ Lack) → result_and b (Err Outside) ≡ joined op (Err Outside) b
unfolding joined
unknown_first op (Ok y) = refl
unknown_first op (Err e) = refl

pub returns-in_err-b-in-Ok : goal.returns-in_err-b-in-Ok
unfolding joined
returns-in_err-b-in-Ok c =
    let p = err_from_is_err_and c.from_residual.result c.from_residual.ensures.1 in rw (c.in-Ok.is, c.in_err-b-in-Ok.was, p.1, p.2)

pub returns-in_ok-b-in-Ok : goal.returns-in_ok-b-in-Ok
unfolding joined
returns-in_ok-b-in-Ok c =
    let e : to_z w32 (of_z w32 c.in-Ok.x) ≡ c.in-Ok.x = search rules in
    let d : to_z w32 (of_z w32 c.in_ok-b-in-Ok.field-0) ≡ c.in_ok-b-in-Ok.field-0 = search rules in
    rw (c.in-Ok.is, c.in_ok-b-in-Ok.was) (rw (e, d) at c.apply.ensures)

pub returns-in-Err-Unknown : goal.returns-in-Err-Unknown
unfolding joined
returns-in-Err-Unknown c =
    let k = rw c.in-Err-Unknown.is at c.in-Err-Unknown.field-0-is in rw (c.in-Err-Unknown.is, k)

pub returns-in-Err-Outside : goal.returns-in-Err-Outside
returns-in-Err-Outside c =
    let k = rw c.in-Err-Outside.is at c.in-Err-Outside.field-0-is in
    c.and.ensures ∙ rw (c.in-Err-Outside.is, k) (unknown_first c.args.op c.args.b)
