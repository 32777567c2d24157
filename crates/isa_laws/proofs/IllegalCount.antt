-- 1,624 words are illegal: as many as the rows of the illegal operation have. Assumes nothing.
use mathlib.Core.Path.{◌≡◌, refl, ap, ◌∙◌}
use mathlib.Core.Bool.{Bool, true, false, not}
use Rattle.isa.specs.Decode.{decode_of}
use Rattle.isa.specs.Legal.{is_legal}
use Rattle.isa_ranges.specs.declared.Operation.TheVariants as op
use Rattle.isa_ranges.specs.Operation.{operation_number, same_operation}
use Rattle.isa_ranges.specs.Ranges.{rows}
use Rattle.isa_ranges.proofs.Count.{count_rows, count_same, count-rows}
use Rattle.isa_laws.specs.Theorems.{IllegalCount}
use Rattle.isa_laws.proofs.DecodeEncode.{illegal?, legal-operation}

counted : count_rows 0 rows (λ o. same_operation o op.Illegal) ≡ 1624
unfolding rows operation_number
counted = refl

not-not : (b : Bool) → not (not b) ≡ b
not-not true = refl
not-not false = refl

pub illegal-count : IllegalCount
illegal-count =
    count_same 65536 (λ w. not (is_legal (decode_of w))) illegal? (λ w h. ap not (legal-operation w) ∙ not-not (illegal? w))
    ∙ count-rows (λ o. same_operation o op.Illegal) ∙ counted
