use Rattle.std.specs.Prelude.{ℤ, Result, Ok, Err, OkIff, ltb, ◌<◌}
use Rattle.std.specs.Result.{result_or}
use mathlib.Core.Path.{◌≡◌, ◌∙◌, ap}
use Rattle.asm_value.specs.declared.Lack.TheVariants.{Outside}
use Rattle.asm_value.specs.Value.{fitted}
use Rattle.word.proofs.Laws.{bool_cases}
use lib.Signed.{mag}
use mir.Val.{SFits, to_z, of_z}
use mir.Syntax.{w32, w64}
use mir.ValLaws.{to_z-of_z}
use borrow.Author.Tests.{ltb-true, lt-ltb}
use Rattle.asm_value.proofs.fit.Goals as goal

held : {E : Type 0} (z : ℤ) (r : Result ℤ E) → SFits w64 z → OkIff r (SFits w32 (to_z w64 (of_z w64 z))) (to_z w64 (of_z w64 z))
    → result_or r (Err Outside) ≡ fitted z
unfolding fitted
held z (Ok x) f h =
    let e = to_z-of_z w64 z f in
    let k : mag z < 2147483648 = (rw e at h.0).sfits in ap Ok (h.1 ∙ e) ∙ simp (lt-ltb (mag z) 2147483648 k)
held z (Err d) f h = bool_cases (ltb (mag z) 2147483648)
    (λ q. let k : mag z < 2147483648 = ltb-true (mag z) 2147483648 q in absurd (h (rw (to_z-of_z w64 z f) (record { sfits = k }))))
    (λ q. rw q)

pub returns : goal.returns
returns c = c.or.ensures ∙ held c.args.z c.try_from.result c.ranges.z c.try_from.ensures
