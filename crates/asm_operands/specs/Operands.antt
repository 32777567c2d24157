-- What may stand between a statement's word and the end of its line: registers, values, flags, a condition, an address,
-- with commas between them. Places are of one line's bytes s; `look` gives the values of names. Assumes nothing.
use Rattle.std.specs.Prelude.{Bool, false, cond, ◌||◌, not, List, ℕ, ◌+◌, leb, eqb, length, drop, ℤ, Option, Some, None, Result}
use Prim.Native.Char.{code}
use Rattle.asm_value.specs.declared.Lack.{Lack}
use Rattle.asm_text.specs.Text.{byte_at, blank?, name_byte?, after, word, found}
use Rattle.asm_text.specs.declared.Read.{Read}
use Rattle.asm_words.specs.Words.{register_of, condition_of, flags_of}
use Rattle.asm_expr.specs.Grammar.{Parse, parsed, malformed, named?, factor_of}
use Rattle.asm_expr.specs.Meaning.{answer_of}
use Rattle.asm_operands.specs.declared.Address.{Address}

-- the line is over at i: its bytes end there, or a comment begins. [02 §12]
unfoldable pub over? : List ℕ → ℕ → Bool
over? s i = leb (length s) i || eqb (byte_at s i) (code ";")

-- n, up to the place i
abbrev pub up_to : ℕ → Option ℕ → Option (Read ℕ)
up_to i None = None
up_to i (Some n) = found n i

-- what a word is that stands at i, after blanks: its number, and the place after it
unfoldable pub word_said : (List ℕ → Option ℕ) → List ℕ → ℕ → Option (Read ℕ)
word_said number s i = up_to (after name_byte? s (after blank? s i)) (number (word (drop (after blank? s i) s)))

-- R0 to R7, BP, LR, SP, PC. [02 §12]
unfoldable pub register_at : List ℕ → ℕ → Option (Read ℕ)
register_at s i = word_said register_of s i

-- a condition of CEX, by its code. [003 Table 14]
unfoldable pub condition_at : List ℕ → ℕ → Option (Read ℕ)
condition_at s i = word_said condition_of s i

-- one to five of the letters V S N Z C, each once. [02 §12; 003 6.6]
unfoldable pub flags_at : List ℕ → ℕ → Option (Read ℕ)
flags_at s i = word_said flags_of s i

-- .B is 1, .W and nothing 0, right behind the word, and no letter or digit behind it. [02 §12]
unfoldable pub width_at : List ℕ → ℕ → Option (Read ℕ)
width_at s i =
    cond (not (eqb (byte_at s i) (code "."))) (found 0 i)
    (cond (name_byte? (byte_at s (i + 2))) None
    (cond (eqb (byte_at s (i + 1)) (code "B")) (found 1 (i + 2))
    (cond (eqb (byte_at s (i + 1)) (code "W")) (found 0 (i + 2))
    None)))

-- a value: a number, a name, or an expression in brackets, 16 deep at most. [02 §12]
unfoldable pub value_at : (List ℕ → Result ℤ Lack) → List ℕ → ℕ → Option (Read (Result ℤ Lack))
value_at look s i = answer_of look (factor_of 16 s i)

-- something stands there, and no name in it
unfoldable pub nameless? : Parse → Bool
nameless? malformed = false
nameless? (parsed e i) = not (named? e)

-- the value at i is a number, plain or as an expression in which no name stands: "A bracketed expression may stand
-- wherever a number may". [02 §12]
unfoldable pub number? : List ℕ → ℕ → Bool
number? s i = nameless? (factor_of 16 s i)

-- a comma at i, and what follows it
unfoldable pub comma? : List ℕ → ℕ → Bool
comma? s i = eqb (byte_at s (after blank? s i)) (code ",")

unfoldable pub comma_register : List ℕ → ℕ → Option (Read ℕ)
comma_register s i = cond (comma? s i) (register_at s (after blank? s i + 1)) None

unfoldable pub comma_value : (List ℕ → Result ℤ Lack) → List ℕ → ℕ → Option (Read (Result ℤ Lack))
comma_value look s i = cond (comma? s i) (value_at look s (after blank? s i + 1)) None

-- an address, by the fields of its instruction and its register, up to the place i
abbrev pub addressed : (prpo dec inc register i : ℕ) → Option (Read Address)
addressed prpo dec inc register i = found (record { prpo = prpo; dec = dec; inc = inc; register = register }) i

-- +R or -R: the register changes before it is used. [003 6.1.2]
abbrev pub changed_before : (dec inc : ℕ) → Option (Read ℕ) → Option (Read Address)
changed_before dec inc None = None
changed_before dec inc (Some r) = addressed 1 dec inc r.value r.next

-- R+, R- or R
unfoldable pub changed_after : List ℕ → Option (Read ℕ) → Option (Read Address)
changed_after s None = None
changed_after s (Some r) =
    cond (eqb (byte_at s (after blank? s r.next)) (code "+")) (addressed 0 0 1 r.value (after blank? s r.next + 1))
    (cond (eqb (byte_at s (after blank? s r.next)) (code "-")) (addressed 0 1 0 r.value (after blank? s r.next + 1))
    (addressed 0 0 0 r.value r.next))

-- the address of LD and ST: R, +R, -R, R+ or R-. [02 §12; 003 6.1.2]
unfoldable pub address_at : List ℕ → ℕ → Option (Read Address)
address_at s i =
    cond (eqb (byte_at s (after blank? s i)) (code "+")) (changed_before 0 1 (register_at s (after blank? s i + 1)))
    (cond (eqb (byte_at s (after blank? s i)) (code "-")) (changed_before 1 0 (register_at s (after blank? s i + 1)))
    (changed_after s (register_at s i)))

unfoldable pub comma_address : List ℕ → ℕ → Option (Read Address)
comma_address s i = cond (comma? s i) (address_at s (after blank? s i + 1)) None
