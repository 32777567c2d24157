-- A table as the code keeps it, one number a row: a word's bytes in base 256 (asm_text's `spelled`), times 256, and a
-- number below 256. Laws tie each such table to the words in letters. Assumes nothing.
use Rattle.std.specs.Prelude.{◌≡◌, cond, List, [], ◌∷◌, ℕ, ◌-◌, ◌/◌, ◌%◌, eqb, ltb, get_or, Option, Some, None}
use Rattle.asm_text.specs.Text.{word, spelled}
use Rattle.asm_words.specs.declared.Word.{Word}
use Rattle.asm_words.specs.declared.Word.TheVariants.{Free, Reserved, Begins}
use Rattle.asm_words.specs.declared.Keyword.{Keyword}
use Rattle.asm_words.specs.declared.Keyword.TheVariants as key
use Rattle.asm_words.specs.declared.Valued.{Valued}
use Rattle.asm_words.specs.declared.Valued.TheVariants as val

-- what the first row for the spelling p says, if there is a row for it
unfoldable pub number_in : List ℕ → ℕ → Option ℕ
number_in [] p = None
number_in (r ∷ rs) p = cond (eqb (r / 256) p) (Some (r % 256)) (number_in rs p)

-- r is what f says of each word that p spells
abbrev pub Says : {A : Type 0} → (List ℕ → A) → (p : ℕ) → A → Type 0
Says f p r = (t : List ℕ) → p ≡ spelled (word t) → r ≡ f (word t)

-- ---- what the number in a row stands for: 0 no word, 1 to 47 what begins a statement, from 48 on the other words
unfoldable pub valued_at : ℕ → Valued
valued_at n =
    get_or (val.Org ∷ val.Bss ∷ val.Byte ∷ val.Word ∷ val.Bl ∷ val.SetPri ∷ val.Svc ∷ []) n (val.Branch (n - 7))

unfoldable pub plain_at : ℕ → Keyword
plain_at n =
    get_or (key.Equ ∷ key.End ∷ key.Mov ∷ key.Swap ∷ key.Swpb ∷ key.Sxt ∷ key.SetCc ∷ key.ClrCc ∷ key.Cex ∷ key.Ld ∷ key.St
    ∷ key.Ldr ∷ []) n key.Str

-- the keywords in groups, end to end: how many there are in a group, and what the k-th of them is
unfoldable pub groups : List (ℕ × (ℕ → Keyword))
groups =
    (15, λ k. key.Value (valued_at k)) ∷ (12, key.Arithmetic) ∷ (3, key.Unary) ∷ (4, key.MovImm) ∷ (13, plain_at) ∷ []

unfoldable pub nth_of : List (ℕ × (ℕ → Keyword)) → ℕ → Keyword
nth_of [] n = key.Str
nth_of (g ∷ gs) n = cond (ltb n g.0) (g.1 n) (nth_of gs (n - g.0))

-- no word, the keywords, and then the words that are only reserved
unfoldable pub word_at : ℕ → Word
word_at n = cond (eqb n 0) Free (cond (ltb n 48) (Begins (nth_of groups (n - 1))) Reserved)
