-- Lines as they are written, computed: each text is the bytes of what its comment says. Assumes nothing.
use mathlib.Core.Path.{◌≡◌, refl}
use mathlib.Core.Bool.{true, false}
use mathlib.Core.List.{List, [], ◌∷◌}
use Prim.Native.Nat.{ℕ}
use lib.IntN.{pos, negsuc}
use Rattle.isa.specs.declared.Instr.TheVariants as instr
use Rattle.std.specs.Prelude.{Option, Some, None, Ok, Err}
use Rattle.asm_value.specs.declared.Lack.TheVariants.{Unknown}
use Rattle.asm_line.specs.declared.Line.{Line}
use Rattle.asm_value.specs.Value.{fitted, applied, joined}
use Rattle.asm_text.specs.Text.{ascii, blank?, letter?, name_byte?, digit_of, digit?, span, after, numeral, word, same}
use Rattle.asm_words.specs.Words.{meaning, branches, operations, unaries, moves, valued_words, other_words, keywords, registers, conditions}
use Rattle.asm_words.specs.Words.{
  emulated,
  words,
  word_of,
  free?,
  register_of,
  condition_of,
  flags,
  flag_of,
  with_bit,
  flags_from,
  flags_of,
  some_flag,
}
use Rattle.asm_expr.specs.Grammar.{named?, digits_at, name_at, plain_at, closed, plus?, times?, chain, parts_of, factor_with, factor_of}
use Rattle.asm_expr.specs.Meaning.{value_of, answer_of}
use Rattle.asm_operands.specs.Operands.{
  over?,
  word_said,
  register_at,
  condition_at,
  flags_at,
  width_at,
  value_at,
  nameless?,
  number?,
  comma?,
}
use Rattle.asm_operands.specs.Operands.{comma_register, comma_value, changed_after, address_at, comma_address}
use Rattle.asm_line.specs.declared.Statement.TheVariants.{Nothing, Equ, Fixed, Constant, Cex, MovImm}
use Rattle.asm_line.specs.Statement.{with_value, one_value, equate, arithmetic, move, exchange, unary, one_register, on_flags}
use Rattle.asm_line.specs.Statement.{conditional, load, store, move_byte, load_relative, store_relative, statement_with, statement_of}
use Rattle.asm_line.specs.Line.{line_with, statement_at, after_name, line_from, line_of}

-- a line where no name is known
abbrev reads : List ℕ → Option Line
reads s = line_of (λ n. Err Unknown) s

-- lines with a name, a statement, both or neither, and lines that are 17. [02 §12]
pub lines :
    -- a name, a statement and a comment
    (reads (ascii "LOOP ADD.B R1,R2 ;X") ≡ line_with 0 (Some 0) (Fixed (instr.Alu 0 0 1 1 2)))
    -- blanks may be absent: ADD#-1,PC; -1 is a constant, PC is R7
    × (reads (ascii "\tADD#-1,PC") ≡ line_with 1 None (Constant 0 0 (Ok (negsuc 0)) 7))
    -- a name alone
    × (reads (ascii "A") ≡ line_with 0 (Some 0) Nothing)
    -- A EQU $A; without its name it is 17
    × (reads (ascii "A EQU $A") ≡ line_with 0 (Some 0) (Equ (Ok (pos 10))))
    × (reads (ascii "EQU $A") ≡ None)
    -- MOVH #32,R1; the same in brackets, which is the same; and MOVH (#32+X),R1, where a name stands
    × (reads (ascii "MOVH #32,R1") ≡ line_with 0 None (MovImm 3 true (Ok (pos 32)) 1))
    × (reads (ascii "MOVH (#32),R1") ≡ line_with 0 None (MovImm 3 true (Ok (pos 32)) 1))
    × (reads (ascii "MOVH (#32+X),R1")
    ≡ line_with 0 None (MovImm 3 false (Err Unknown) 1))
    -- LD.B + R1,SP: the register changes first
    × (reads (ascii "LD.B + R1,SP") ≡ line_with 0 None (Fixed (instr.Ld 1 0 1 1 1 6)))
    -- ST R1,R2-
    × (reads (ascii "ST R1,R2-") ≡ line_with 0 None (Fixed (instr.St 0 1 0 0 1 2)))
    -- SETCC SVC sets S, V and C; a letter stands once
    × (reads (ascii "SETCC SVC") ≡ line_with 0 None (Fixed (instr.SetCc 25)))
    × (reads (ascii "SETCC CC") ≡ None)
    -- CEX HS,#1,X, where X is not known
    × (reads (ascii "CEX HS,#1,X") ≡ line_with 0 None (Cex 2 (Ok (pos 1)) (Err Unknown)))
    -- BRAX is a name
    × (reads (ascii "BRAX") ≡ line_with 0 (Some 0) Nothing)
    -- RET is reserved: 17
    × (reads (ascii "RET") ≡ None)
    -- MOV #1,R0: MOV takes no constant
    × (reads (ascii "MOV #1,R0") ≡ None)
    -- WORD #1+#2: an expression stands in brackets
    × (reads (ascii "WORD #1+#2") ≡ None)
    -- END X: END takes no value
    × (reads (ascii "END X") ≡ None)
    -- ADD.BR0,R1: a letter behind .B
    × (reads (ascii "ADD.BR0,R1") ≡ None)
    -- a CR that ends no line is no blank
    × (reads (ascii "ADD R0,R1\r") ≡ None)
    -- a comment holds any bytes
    × (reads (59 ∷ 13 ∷ 128 ∷ []) ≡ line_with 0 None Nothing)
unfolding fitted applied joined blank? letter? name_byte? digit_of digit? span after numeral word same meaning branches operations unaries
    moves valued_words other_words keywords registers conditions emulated words word_of free? register_of condition_of flags flag_of
    with_bit flags_from flags_of some_flag named? digits_at name_at plain_at closed plus? times? chain parts_of factor_with factor_of
    value_of answer_of over? word_said register_at condition_at flags_at width_at value_at nameless? number? comma? comma_register
    comma_value changed_after address_at comma_address with_value one_value equate arithmetic move exchange unary one_register on_flags
    conditional load store move_byte load_relative store_relative statement_with statement_of statement_at after_name line_from line_of
lines = (
  refl,
  refl,
  refl,
  refl,
  refl,
  refl,
  refl,
  refl,
  refl,
  refl,
  refl,
  refl,
  refl,
  refl,
  refl,
  refl,
  refl,
  refl,
  refl,
  refl,
  refl,
)
