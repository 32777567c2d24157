-- A source that meets the premise: its one name has the place of its statement. Assumes nothing.
use mathlib.Core.Path.{◌≡◌, refl}
use mathlib.Core.Bool.{false}
use mathlib.Core.List.{[], ◌∷◌}
use lib.IntN.{pos}
use Rattle.isa.specs.Encode.{encode_of}
use Rattle.text_lines.specs.Lines.{lines_of}
use Rattle.std.specs.Prelude.{Ok}
use Rattle.asm_value.specs.Value.{fitted, applied, joined}
use Rattle.asm_text.specs.Text.{ascii, blank?, letter?, name_byte?, digit_of, digit?, span, after, numeral, word, same, look_up}
use Rattle.asm_words.specs.Words.{meaning, branches, operations, unaries, moves, valued_words, other_words, keywords, registers}
use Rattle.asm_words.specs.Words.{conditions, emulated, words, word_of, free?, register_of}
use Rattle.asm_expr.specs.Grammar.{named?, digits_at, name_at, plain_at, closed, plus?, times?, chain, parts_of, factor_with, factor_of}
use Rattle.asm_expr.specs.Meaning.{value_of, answer_of}
use Rattle.asm_operands.specs.Operands.{over?, word_said, register_at, width_at, value_at, nameless?, number?, comma?, comma_register}
use Rattle.asm_fits.specs.Fits.{residue_of, within_of, fit_of, way_of, steps_of}
use Rattle.asm_line.specs.declared.Statement.TheVariants.{MovImm}
use Rattle.asm_line.specs.Statement.{with_value, one_value, equate, move_byte, statement_with, statement_of}
use Rattle.asm_line.specs.Line.{statement_at, after_name, line_from, line_of}
use Rattle.asm_write.specs.Written.{number_of, layout_of, misplaced?, used_of, onward, next_of, place_value, name_value}
use Rattle.asm_sweeps.specs.Form.{form_from}
use Rattle.asm_sweeps.specs.Places.{first_of, named_of, table_from}
use Rattle.asm_sweeps.specs.Uses.{place_after, uses_from, least_of, verdict_for, verdict_of}
use Rattle.asm_labels.specs.Labels.{sample, given, given_from, given_of, Sample}
use Rattle.asm_labels.proofs.Labels.{names-placed}

no_fault : verdict_of sample ≡ Ok tt
unfolding fitted applied joined blank? letter? name_byte? digit_of digit? span after numeral word same look_up meaning branches operations
    unaries moves valued_words other_words keywords registers conditions emulated words word_of free? register_of digits_at name_at plain_at
    closed named? plus? times? chain parts_of factor_with factor_of value_of answer_of over? word_said register_at width_at value_at
    nameless?
    number? comma? comma_register residue_of within_of fit_of way_of steps_of with_value one_value equate move_byte statement_with
    statement_of
    statement_at after_name line_from line_of number_of layout_of misplaced? used_of onward next_of place_value name_value form_from
    first_of named_of
    table_from place_after uses_from least_of verdict_for verdict_of lines_of encode_of
no_fault = refl

given-are : given_of sample ≡ given (ascii "L") 256 (MovImm 3 false (Ok (pos 256)) 0) ∷ []
unfolding fitted applied joined blank? letter? name_byte? digit_of digit? span after numeral word same look_up meaning branches operations
    unaries moves valued_words other_words keywords registers conditions emulated words word_of free? register_of digits_at name_at plain_at
    closed named? plus? times? chain parts_of factor_with factor_of value_of answer_of over? word_said register_at width_at value_at
    nameless?
    number? comma? comma_register with_value one_value equate move_byte statement_with statement_of statement_at after_name line_from
    line_of
    layout_of onward next_of place_value name_value first_of named_of table_from place_after given_from lines_of
given-are = refl

pub sample-holds : Sample
sample-holds = (given-are, names-placed sample no_fault)
