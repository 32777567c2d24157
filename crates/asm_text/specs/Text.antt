-- The text of a source, a list of bytes: blanks, digits, words, and the value of a name. Assumes nothing.
use Rattle.std.specs.Prelude.{Bool, true, false, cond, ◌&&◌, ◌||◌, List, [], ◌∷◌, map, ℕ, suc, ◌+◌, ◌-◌, ◌*◌, ◌%◌, ◌^◌, min, ltb, leb, eqb, get_or, drop, ℤ, Result, Ok, Err, Option, Some}
use Prim.Native.Char.{code}
use Prim.Native.String.{String, [] as none, ◌∷◌ as ◌then◌}
use Rattle.asm_value.specs.declared.Lack.{Lack}
use Rattle.asm_value.specs.declared.Lack.TheVariants.{Unknown}
use Rattle.asm_text.specs.declared.Read.{Read}
use Rattle.asm_text.specs.declared.Name.{Name}
use Rattle.asm_text.specs.declared.Names.{Names}

-- the bytes of a text that is written in letters: each character's code
abbrev pub ascii : String → List ℕ
ascii none = []
ascii (c then s) = code c ∷ ascii s

-- v was read, up to the place i
abbrev pub found : {A : Type 0} → A → ℕ → Option (Read A)
found v i = Some (record { value = v; next = i })

-- the byte at i; 0 past the end
abbrev pub byte_at : List ℕ → ℕ → ℕ
byte_at s i = get_or s i 0

-- a blank or a tab. [02 §12]
unfoldable pub blank? : ℕ → Bool
blank? b = eqb b (code " ") || eqb b (code "\t")

-- A to Z. [02 §12]
unfoldable pub letter? : ℕ → Bool
letter? b = leb (code "A") b && leb b (code "Z")

-- A to Z, 0 to 9. [02 §12]
unfoldable pub name_byte? : ℕ → Bool
name_byte? b = leb (code "A") b && leb b (code "Z") || leb (code "0") b && leb b (code "9")

-- 0 to 9 and A to F say 0 to 15; any other byte 16, which is a digit of no base
unfoldable pub digit_of : ℕ → ℕ
digit_of b =
    cond (leb (code "0") b && leb b (code "9")) (b - code "0")
    (cond (leb (code "A") b && leb b (code "F")) (b - (code "A" - 10))
    16)

-- a digit of the base
unfoldable pub digit? : ℕ → ℕ → Bool
digit? base b = ltb (digit_of b) base

-- how many bytes at the front are of a kind
unfoldable pub span : (ℕ → Bool) → List ℕ → ℕ
span p [] = 0
span p (b ∷ l) = cond (p b) (suc (span p l)) 0

-- the first place from i on whose byte is not of a kind
unfoldable pub after : (ℕ → Bool) → List ℕ → ℕ → ℕ
after p s i = i + span p (drop i s)

-- what the digits at the front say, after digits that said n
unfoldable pub numeral : ℕ → ℕ → List ℕ → ℕ
numeral base n [] = n
numeral base n (b ∷ l) = cond (digit? base b) (numeral base (n * base + digit_of b) l) n

-- ---- words

-- the letters and digits at the front: a word, where the first is a letter. [02 §12]
unfoldable pub word : List ℕ → List ℕ
word [] = []
word (b ∷ l) = cond (name_byte? b) (b ∷ word l) []

-- two words are the same
unfoldable pub same : List ℕ → List ℕ → Bool
same [] [] = true
same [] (b ∷ m) = false
same (a ∷ l) [] = false
same (a ∷ l) (b ∷ m) = eqb a b && same l m

-- a word as one number, its bytes in base 256, after bytes that made n; words of more than six bytes are all 2^48
unfoldable pub spelled_from : ℕ → List ℕ → ℕ
spelled_from n [] = n
spelled_from n (b ∷ l) = spelled_from (min (n * 256 + b) (2 ^ 48)) l

unfoldable pub spelled : List ℕ → ℕ
spelled w = spelled_from 0 w

-- a number by which most words differ, after bytes that made k
unfoldable pub key_from : ℕ → List ℕ → ℕ
key_from k [] = k
key_from k (b ∷ l) = key_from ((k * 31 + b) % 2 ^ 32) l

unfoldable pub key_of : List ℕ → ℕ
key_of w = key_from 0 w

-- ---- names

-- the value of a name: of the first among the names that is the same; none is unknown, 18. [02 §12]
unfoldable pub look_up : List (List ℕ) → List ℤ → List ℕ → Result ℤ Lack
look_up [] vs n = Err Unknown
look_up (m ∷ ms) [] n = Err Unknown
look_up (m ∷ ms) (v ∷ vs) n = cond (same m n) (Ok v) (look_up ms vs n)

-- the names of a source s that start at places
unfoldable pub names_at : List ℕ → List ℕ → List (List ℕ)
names_at s ps = map (λ (p : ℕ). word (drop p s)) ps

-- the same look-up in a list that holds for each name its place in the source s, its key and its value; where each key
-- is its name's, it is `look_up` (Laws: look-up-at)
unfoldable pub look_up_at : List ℕ → List Name → List ℕ → Result ℤ Lack
look_up_at s [] n = Err Unknown
look_up_at s (m ∷ ms) n =
    cond (eqb m.key (key_of n) && same (word (drop m.place s)) n) (Ok m.value) (look_up_at s ms n)

-- the values that names give
abbrev pub values_in : Names → List ℕ → Result ℤ Lack
values_in names = look_up_at names.source.now names.list.now
