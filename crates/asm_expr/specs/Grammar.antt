-- The grammar of values: what stands at a place of a source s, a list of bytes, and where it ends. No name is looked up
-- here, so whether a value is well formed depends on the text alone.
--     expression  term, or expression + term, or expression - term
--     term        factor, or term * factor, or term / factor
--     factor      number, name, or ( expression )
--     number      # digits, # - digits, $ digits of base sixteen
-- A value of a statement is a factor with 16 brackets left. Assumes nothing.
use Rattle.std.specs.Prelude.{Bool, true, false, cond, ◌||◌, List, ℕ, zero, suc, ◌+◌, eqb, length, drop, ℤ}
use Prim.Native.Char.{code}
use Rattle.asm_value.specs.Value.{with_sign}
use Rattle.asm_words.specs.Words.{word_of, free?}
use Rattle.asm_text.specs.Text.{byte_at, blank?, letter?, name_byte?, digit?, after, numeral, word}

-- an expression: a number, of any size; a name; two parts with the byte of + - * or / between them. [02 §12]
pub data Expr : Type 0 where
  number : ℤ → Expr
  name : List ℕ → Expr
  binary : ℕ → Expr → Expr → Expr

-- a name stands in the expression. [02 §12]
unfoldable pub named? : Expr → Bool
named? (number z) = false
named? (name n) = true
named? (binary op a b) = named? a || named? b

-- what stands at a place, and the place after it; or nothing that fits, 17. [02 §12]
pub data Parse : Type 0 where
  parsed : Expr → ℕ → Parse
  malformed : Parse

-- g of what stands there, if something does
abbrev pub follow : Parse → (Expr → ℕ → Parse) → Parse
follow malformed g = malformed
follow (parsed e i) g = g e i

-- at least one digit of the base at i. [02 §12]
unfoldable pub digits_at : Bool → ℕ → List ℕ → ℕ → Parse
digits_at negative base s i =
    cond (digit? base (byte_at s i))
    (parsed (number (with_sign negative (numeral base 0 (drop i s)))) (after (digit? base) s i))
    malformed

-- a name at i: a word that is none of the language. [02 §12]
unfoldable pub name_at : List ℕ → ℕ → Parse
name_at s i =
    cond (free? (word_of (word (drop i s)))) (parsed (name (word (drop i s))) (after name_byte? s i)) malformed

-- a number or a name at i. [02 §12]
unfoldable pub plain_at : List ℕ → ℕ → Parse
plain_at s i =
    cond (letter? (byte_at s i)) (name_at s i)
    (cond (eqb (byte_at s i) (code "#"))
    (cond (eqb (byte_at s (i + 1)) (code "-")) (digits_at true 10 s (i + 2)) (digits_at false 10 s (i + 1)))
    (cond (eqb (byte_at s i) (code "$")) (digits_at false 16 s (i + 1))
    malformed))

-- e, and ) after it. [02 §12]
unfoldable pub closed : List ℕ → Expr → ℕ → Parse
closed s e i = cond (eqb (byte_at s (after blank? s i)) (code ")")) (parsed e (after blank? s i + 1)) malformed

-- the signs of a sum, and of a product
unfoldable pub plus? : ℕ → Bool
plus? b = eqb b (code "+") || eqb b (code "-")

unfoldable pub times? : ℕ → Bool
times? b = eqb b (code "*") || eqb b (code "/")

-- e at the left, and then, n times at most, a sign of the kind and a part: equals from the left. [02 §12]
unfoldable pub chain : (ℕ → Bool) → (ℕ → Parse) → List ℕ → ℕ → Expr → ℕ → Parse
chain sign part s zero e i = parsed e i
chain sign part s (suc n) e i =
    cond (sign (byte_at s (after blank? s i)))
    (follow (part (after blank? s i + 1)) (λ d j. chain sign part s n (binary (byte_at s (after blank? s i)) e d) j))
    (parsed e i)

-- parts with signs of the kind between them; each takes a byte, so their number is at most the source's length
unfoldable pub parts_of : (ℕ → Bool) → (ℕ → Parse) → List ℕ → ℕ → Parse
parts_of sign part s i = follow (part i) (λ e j. chain sign part s (length s) e j)

-- a bracket with `inner` in it, or what is plain
unfoldable pub factor_with : (ℕ → Parse) → List ℕ → ℕ → Parse
factor_with inner s i =
    cond (eqb (byte_at s (after blank? s i)) (code "("))
    (follow (inner (after blank? s i + 1)) (closed s))
    (plain_at s (after blank? s i))

-- a factor in which k brackets may be opened, one in another: "at most 16 deep". [02 §12]
unfoldable pub factor_of : ℕ → List ℕ → ℕ → Parse
factor_of zero s = factor_with (λ i. malformed) s
factor_of (suc k) s = factor_with (parts_of plus? (parts_of times? (factor_of k s) s) s) s

-- `*` and `/` before `+` and `-`. [02 §12]
unfoldable pub term_of : ℕ → List ℕ → ℕ → Parse
term_of k s = parts_of times? (factor_of k s) s

unfoldable pub expression_of : ℕ → List ℕ → ℕ → Parse
expression_of k s = parts_of plus? (term_of k s) s
