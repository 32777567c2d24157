-- Values as they are written, computed: each text is the bytes of what its line says. Assumes nothing.
use mathlib.Core.Path.{◌≡◌, refl}
use Rattle.std.specs.Prelude.{ℤ, Option, None, Result, Ok, Err}
use Rattle.asm_value.specs.declared.Lack.{Lack}
use Rattle.asm_text.specs.declared.Read.{Read}
use mathlib.Core.List.{List}
use Prim.Native.Nat.{ℕ}
use lib.IntN.{pos, negsuc}
use Rattle.asm_value.specs.declared.Lack.TheVariants.{Unknown, Outside}
use Rattle.asm_value.specs.Value.{fitted, applied, joined}
use Rattle.asm_text.specs.Text.{ascii, blank?, letter?, name_byte?, digit_of, digit?, span, after, numeral, word, same, found}
use Rattle.asm_words.specs.Words.{meaning, branches, operations, unaries, moves, valued_words, other_words, keywords, registers}
use Rattle.asm_words.specs.Words.{conditions, emulated, words, word_of, free?}
use Rattle.asm_expr.specs.Grammar.{digits_at, name_at, plain_at, closed, plus?, times?, chain, parts_of, factor_with, factor_of}
use Rattle.asm_expr.specs.Meaning.{value_of, answer_of}

-- what a text says as a statement's value, where no name is known
abbrev reads : List ℕ → Option (Read (Result ℤ Lack))
reads s = answer_of (λ n. Err Unknown) (factor_of 16 s 0)

-- numbers and brackets. [02 §12]
pub numbers :
    -- (#1+#2*#3) is 7: * before +
    (reads (ascii "(#1+#2*#3)") ≡ found (Ok (pos 7)) 10)
    -- (#9-#3-#2) is 4: equals from the left
    × (reads (ascii "(#9-#3-#2)") ≡ found (Ok (pos 4)) 10)
    -- (#-7/#2) is -3: division towards zero
    × (reads (ascii "(#-7/#2)") ≡ found (Ok (negsuc 2)) 8)
    -- #16 is sixteen, $10 too
    × (reads (ascii "#16") ≡ found (Ok (pos 16)) 3)
    × (reads (ascii "$10") ≡ found (Ok (pos 16)) 3)
    -- (#1/(#2-#2)) divides by zero: 19
    × (reads (ascii "(#1/(#2-#2))") ≡ found (Err Outside) 12)
    -- #-2147483648 is the least value
    × (reads (ascii "#-2147483648") ≡ found (Ok (negsuc 2147483647)) 12)
    -- $FFFFFFFF is outside 32 signed bits: 19
    × (reads (ascii "$FFFFFFFF") ≡ found (Err Outside) 9)
    -- -#5 has its sign before the mark: 17
    × (reads (ascii "-#5") ≡ None)
    -- #1+ bare is the number alone, before the +
    × (reads (ascii "#1+") ≡ found (Ok (pos 1)) 2)
    -- 16 brackets one in another are lawful
    × (reads (ascii "((((((((((((((((#1))))))))))))))))") ≡ found (Ok (pos 1)) 34)
    -- the 17th is 17
    × (reads (ascii "(((((((((((((((((#1)))))))))))))))))") ≡ None)
unfolding fitted applied joined blank? letter? name_byte? digit_of digit? span after numeral word digits_at
    plain_at closed plus? times? chain parts_of factor_with factor_of value_of answer_of
numbers = (refl, refl, refl, refl, refl, refl, refl, refl, refl, refl, refl, refl)

-- names. [02 §12]
pub names :
    -- (#1/#0+X) has an unknown name: 18 before 19
    (reads (ascii "(#1/#0+X)") ≡ found (Err Unknown) 9)
    -- (#1/#0+X has no closing bracket: 17 before both
    × (reads (ascii "(#1/#0+X") ≡ None)
    -- RET is a word of the language, and no name: 17
    × (reads (ascii "RET") ≡ None)
    -- R8 is a name
    × (reads (ascii "R8") ≡ found (Err Unknown) 2)
unfolding fitted applied joined blank? letter? name_byte? digit_of digit? span after numeral word digits_at
    plain_at closed plus? times? chain parts_of factor_with factor_of value_of answer_of name_at word_of words keywords valued_words
    branches
    operations unaries moves other_words registers conditions emulated meaning same free?
names = (refl, refl, refl, refl)
