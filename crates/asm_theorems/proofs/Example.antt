-- A source computed: its verdict, its statements at their places, and by the theorem what their words decode to.
-- Assumes nothing.
use mathlib.Core.Path.{◌≡◌, refl, sym, ap, ◌∙◌}
use mathlib.Core.Bool.{Bool, false, cond}
use mathlib.Core.List.{List, [], ◌∷◌}
use Prim.Native.Nat.{ℕ, suc, ◌+◌, ◌-◌, ◌*◌, ◌/◌, ◌<◌, ◌≤◌}
use native.Mathlib.Omega.{arith}
use lib.Dec.{ltb}
use lib.IntN.{ℤ, pos, negsuc}
use lib.ListN.{length}
use lib.Signed.{mag}
use borrow.Author.Tests.{eq-eqb, ltb-true, ltb-false}
use Rattle.isa.specs.declared.Instr.TheVariants as i
use Rattle.isa.specs.Encode.{encode_of}
use Rattle.text_lines.specs.Lines.{lines_of}
use Rattle.std.specs.Prelude.{Result, Ok, Err}
use Rattle.asm_value.specs.declared.Lack.{Lack}
use Rattle.asm_value.specs.Value.{fitted, applied, joined}
use Rattle.asm_text.specs.Text.{blank?, letter?, name_byte?, digit_of, digit?, span, after, numeral, word, same, look_up}
use Rattle.asm_words.specs.Words.{meaning, branches, operations, unaries, moves, valued_words, other_words, keywords, registers}
use Rattle.asm_words.specs.Words.{conditions, emulated, words, word_of, free?, register_of}
use Rattle.asm_expr.specs.Grammar.{named?, digits_at, name_at, plain_at, closed, plus?, times?, chain, parts_of, factor_with, factor_of}
use Rattle.asm_expr.specs.Meaning.{value_of, answer_of}
use Rattle.asm_operands.specs.Operands.{over?, word_said, register_at, width_at, value_at, nameless?, number?, comma?, comma_register}
use Rattle.asm_fits.specs.Fits.{residue_of, within_of, fit_of, way_of, steps_of}
use Rattle.word.proofs.Laws.{bool_cases}
use Rattle.asm_line.specs.declared.Statement.TheVariants.{Org, End, Branch, MovImm}
use Rattle.asm_line.specs.Statement.{with_value, one_value, equate, move_byte, statement_with, statement_of}
use Rattle.asm_line.specs.Line.{statement_at, after_name, line_from, line_of}
use Rattle.asm_write.specs.Written.{number_of, layout_of, misplaced?, used_of, onward, next_of, place_value, name_value}
use Rattle.asm_sweeps.specs.declared.Fault.TheVariants.{Memory}
use Rattle.asm_sweeps.specs.Form.{form_from}
use Rattle.asm_sweeps.specs.Places.{first_of, named_of, table_from}
use Rattle.asm_sweeps.specs.Uses.{place_after, uses_from, names_of, least_of, refusal, verdict_for, verdict_of}
use Rattle.asm_image.specs.Image.{placing, placed_from, placed_of}
use Rattle.asm_call.specs.Call.{assemble_verdict}
use Rattle.asm_theorems.specs.Theorems.{Accepted, Assembles, Leads, byte_taken, sample, Sample}
use Rattle.asm_theorems.proofs.Accepted.{refusal-accepted}
use Rattle.asm_theorems.proofs.Decoded.{words-decode}

no_fault : verdict_of sample ≡ Ok tt
unfolding fitted applied joined blank? letter? name_byte? digit_of digit? span after numeral word same look_up meaning branches operations
    unaries moves valued_words other_words keywords registers conditions emulated words word_of free? register_of digits_at name_at plain_at
    closed named? plus? times? chain parts_of factor_with factor_of value_of answer_of over? word_said register_at width_at value_at
    nameless?
    number? comma? comma_register residue_of within_of fit_of way_of steps_of with_value one_value equate move_byte statement_with
    statement_of
    statement_at after_name line_from line_of number_of layout_of misplaced? used_of onward next_of place_value name_value form_from
    first_of named_of
    table_from place_after uses_from least_of verdict_for verdict_of lines_of encode_of
no_fault = refl

placed-are : placed_of (names_of sample) sample
    ≡ placing 0 (Org (Ok (pos 256))) ∷ placing 256 (MovImm 3 false (Ok (pos 256)) 0)
    ∷ placing 258 (Branch 7 (Ok (pos 256))) ∷ placing 260 End ∷ []
unfolding fitted applied joined blank? letter? name_byte? digit_of digit? span after numeral word same look_up meaning branches operations
    unaries moves valued_words other_words keywords registers conditions emulated words word_of free? register_of digits_at name_at plain_at
    closed named? plus? times? chain parts_of factor_with factor_of value_of answer_of over? word_said register_at width_at value_at
    nameless?
    number? comma? comma_register with_value one_value equate move_byte statement_with statement_of statement_at after_name line_from
    line_of
    layout_of onward next_of place_value name_value first_of named_of table_from place_after placed_from lines_of
placed-are = refl

-- ---- the two words
abbrev in_known : Result ℤ Lack → ℤ
in_known (Ok z) = z
in_known (Err d) = pos 0

abbrev in_pos : ℤ → ℕ
in_pos (pos n) = n
in_pos (negsuc n) = 0

back-two : (off : ℤ) → mag off < 512 → Leads 258 off (pos 256) → off ≡ negsuc 1
unfolding residue_of
back-two (pos n) h e = let q : (258 + 2 + 2 * n) / 65536 < 1 = omega arith in absurd (omega (arith, e))
back-two (negsuc n) h e =
    let x = 258 + 2 + 2 * (32768 + 32768 - suc n) in
    let d : x < 131331 = omega arith in
    let q : x / 65536 < 3 = omega arith in
    bool_cases (ltb (x / 65536) 2)
    (λ b. let k : x / 65536 < 2 = ltb-true (x / 65536) 2 b in absurd (omega (arith, h, e)))
    (λ b. let k : 2 ≤ x / 65536 = ltb-false (x / 65536) 2 b in ap negsuc (omega (arith, h, e)))

module _ (m : List ℕ) (hm : length m ≡ 65536) where
  accepted : Accepted m sample
  unfolding assemble_verdict
  accepted =
      refusal-accepted m sample
      (ap (λ (b : Bool). cond b (verdict_of sample) (Err (refusal Memory 0))) (eq-eqb (length m) 65536 hm) ∙ no_fault)

  move-there : Assembles m sample (placing 256 (MovImm 3 false (Ok (pos 256)) 0))
      (placing 258 (Branch 7 (Ok (pos 256))) ∷ placing 260 End ∷ [])
  move-there = record { accepted = accepted; before = placing 0 (Org (Ok (pos 256))) ∷ []; among = placed-are }

  branch-there : Assembles m sample (placing 258 (Branch 7 (Ok (pos 256)))) (placing 260 End ∷ [])
  branch-there = record {
    accepted = accepted;
    before = placing 0 (Org (Ok (pos 256))) ∷ placing 256 (MovImm 3 false (Ok (pos 256)) 0) ∷ [];
    among = placed-are;
  }

pub sample-holds : Sample
unfolding layout_of residue_of
sample-holds m hm =
    let a = words-decode m sample _ _ (move-there m hm)
    ((λ c. let d = c.0 in omega arith), ((λ c. let d = c.0 in omega arith), tt))
    ((λ c. let d = c.0 in omega arith), ((λ c. let d = c.0 in omega arith), tt)) in
    let b = words-decode m sample _ _ (branch-there m hm)
    ((λ c. let d = c.0 in omega arith), tt) ((λ c. let d = c.0 in omega arith), tt) in (
      move-there m hm,
      branch-there m hm,
      a.2 ∙ ap (λ (z : ℤ). i.MovImm 3 (byte_taken 3 false z) 0) (sym (ap in_known a.1)),
      b.3 ∙ ap (i.Branch 7) (back-two b.1 b.4 (b.5 ∙ ap residue_of (sym (ap in_known b.2)))),
    )
