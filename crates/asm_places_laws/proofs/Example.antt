-- A source computed: the definitions reduce to its verdict and its records, and the call's answers follow from them for a buffer of
-- any content that is long enough, or too short. Assumes nothing.
use mathlib.Core.Path.{◌≡◌, refl, sym, ap, ◌∙◌}
use mathlib.Core.List.{List, ◌++◌}
use Prim.Native.Nat.{ℕ, ◌≤◌}
use native.Mathlib.Omega.{arith}
use lib.ListN.{length, drop}
use Rattle.isa.specs.Encode.{encode_of}
use Rattle.text_lines.specs.Lines.{lines_of}
use Rattle.asm_value.specs.Value.{fitted, applied, joined}
use Rattle.asm_text.specs.Text.{blank?, letter?, name_byte?, digit_of, digit?, span, after, numeral, word, same, look_up}
use Rattle.asm_words.specs.Words.{meaning, branches, operations, unaries, moves, valued_words, other_words, keywords, registers}
use Rattle.asm_words.specs.Words.{conditions, emulated, words, word_of, free?, register_of}
use Rattle.asm_expr.specs.Grammar.{named?, digits_at, name_at, plain_at, closed, plus?, times?, chain, parts_of, factor_with, factor_of}
use Rattle.asm_expr.specs.Meaning.{value_of, answer_of}
use Rattle.asm_operands.specs.Operands.{over?, word_said, register_at, width_at, value_at, nameless?, number?, comma?, comma_register}
use Rattle.asm_fits.specs.Fits.{residue_of, within_of, fit_of, way_of, steps_of}
use Rattle.asm_line.specs.Statement.{with_value, one_value, equate, move_byte, statement_with, statement_of}
use Rattle.asm_line.specs.Line.{statement_at, after_name, line_from, line_of}
use Rattle.asm_write.specs.Written.{number_of, layout_of, misplaced?, used_of, onward, room_for, next_of, place_value, name_value}
use Rattle.asm_sweeps.specs.Form.{form_from}
use Rattle.asm_sweeps.specs.Places.{first_of, named_of, table_from}
use Rattle.asm_sweeps.specs.Uses.{place_after, uses_from, least_of, verdict_for, verdict_of}
use Rattle.std.specs.Prelude.{Ok, Err}
use Rattle.asm_sweeps.specs.declared.Fault.TheVariants.{Room}
use Rattle.asm_sweeps.specs.Uses.{refusal}
use Rattle.asm_call.specs.Call.{upper_bits}
use Rattle.asm_places.specs.Call.{Recorded, places_reply}
use Rattle.asm_places.specs.Listing.{listed_from, listed_of, bits_of, kind_of, eight_of, records_of}
use Rattle.asm_places.proofs.Laws.{length-records, places-short, places-accepted}
use Rattle.asm_places_laws.specs.Theorems.{sample, sample_records, Sample}
use Rattle.asm_places_laws.proofs.Told.{call-is, records-then-kept}

no_fault : verdict_of sample ≡ Ok tt
unfolding fitted applied joined blank? letter? name_byte? digit_of digit? span after numeral word same look_up meaning branches operations
    unaries moves valued_words other_words keywords registers conditions emulated words word_of free? register_of digits_at name_at plain_at
    closed named? plus? times? chain parts_of factor_with factor_of value_of answer_of over? word_said register_at width_at value_at
    nameless?
    number? comma? comma_register residue_of within_of fit_of way_of steps_of with_value one_value equate move_byte statement_with
    statement_of
    statement_at after_name line_from line_of number_of layout_of misplaced? used_of onward room_for next_of place_value name_value
    form_from first_of
    named_of table_from place_after uses_from least_of verdict_for verdict_of lines_of encode_of
no_fault = refl

listed-are : records_of (listed_of sample) ≡ sample_records
unfolding fitted applied joined blank? letter? name_byte? digit_of digit? span after numeral word same look_up meaning branches operations
    unaries moves valued_words other_words keywords registers conditions emulated words word_of free? register_of digits_at name_at plain_at
    closed named? plus? times? chain parts_of factor_with factor_of value_of answer_of over? word_said register_at width_at value_at
    nameless?
    number? comma? comma_register residue_of within_of fit_of way_of steps_of with_value one_value equate move_byte statement_with
    statement_of
    statement_at after_name line_from line_of number_of layout_of misplaced? used_of onward room_for next_of place_value name_value
    form_from first_of
    named_of table_from place_after uses_from least_of verdict_for verdict_of lines_of encode_of listed_from bits_of kind_of eight_of
    records_of
listed-are = refl

size_is : length (records_of (listed_of sample)) ≡ 64
size_is = ap (λ (l : List ℕ). length l) listed-are

eight : length (listed_of sample) ≡ 8
eight = let h = length-records (listed_of sample) in omega (arith, h, size_is)

reply-eight : places_reply (Ok 8) ≡ 34359738368
unfolding places_reply upper_bits
reply-eight = refl

reply-short : places_reply (Err (refusal Room 0)) ≡ 22
unfolding places_reply upper_bits
reply-short = refl

pub sample-holds : Sample
sample-holds = (
  listed-are,
  λ b h. (
    let k : length (records_of (listed_of sample)) ≤ length b = omega (arith, size_is, h) in
        ap (λ (x : Recorded). x.reply) (call-is sample b (Ok (length (listed_of sample))) (places-accepted sample b (sym no_fault) k))
        ∙ ap (λ (n : ℕ). places_reply (Ok n)) eight
        ∙ reply-eight,
    let k : length (records_of (listed_of sample)) ≤ length b = omega (arith, size_is, h) in
        records-then-kept sample b no_fault k
        ∙ ap (λ (l : List ℕ). l ++ drop (length l) b) listed-are,
  ),
  λ b h.
      let e = call-is sample b (Err (refusal Room 0)) (places-short sample b (sym no_fault) (omega (arith, size_is, h))) in
      (ap (λ (x : Recorded). x.reply) e ∙ reply-short, ap (λ (x : Recorded). x.places) e),
)
