-- Laws of a line, in the order of its reading. Assumes nothing.
use mathlib.Core.Path.{◌≡◌, sym, ap, ◌∙◌}
use mathlib.Core.Bool.{Bool, true, false}
use mathlib.Core.List.{List}
use Prim.Native.Nat.{ℕ}
use lib.ListN.{drop}
use Rattle.std.specs.Prelude.{ℤ, Option, Some, None, Result}
use Rattle.asm_value.specs.declared.Lack.{Lack}
use Rattle.asm_text.specs.declared.Read.{Read}
use Rattle.asm_text.specs.Text.{byte_at, blank?, letter?, name_byte?, after, word}
use Rattle.asm_words.specs.Words.{word_of, free?}
use Rattle.asm_words.specs.declared.Word.{Word}
use Rattle.asm_operands.specs.Operands.{over?}
use Rattle.asm_line.specs.declared.Statement.{Statement}
use Rattle.asm_line.specs.declared.Statement.TheVariants.{Nothing}
use Rattle.asm_line.specs.Statement.{statement_of}
use Rattle.asm_line.specs.Line.{line_with, ended, statement_at, after_name, line_from}

-- ---- the end of a line
module _ (s : List ℕ) (start : ℕ) (name : Option ℕ) (x : Read Statement) where
  pub end-yes : over? s (after blank? s x.next) ≡ true → line_with start name x.value ≡ ended s start name (Some x)
  end-yes h = rw h

  pub end-no : over? s (after blank? s x.next) ≡ false → None ≡ ended s start name (Some x)
  end-no h = rw h

-- ---- a statement whose word stands at i
pub statement-there : (look : List ℕ → Result ℤ Lack) (s : List ℕ) (named : Bool) (i : ℕ) (m : Word) (j : ℕ) (x : Option (Read Statement))
    → m ≡ word_of (word (drop i s))
    → j ≡ after name_byte? s i → x ≡ statement_of look s named m j → x ≡ statement_at look s named i
unfolding statement_at
statement-there look s named i m j x em ej ex =
    ex ∙ ap (λ k. statement_of look s named k j) em ∙ ap (statement_of look s named (word_of (word (drop i s)))) ej

-- ---- a line from its first byte on that is no blank
module _ (look : List ℕ → Result ℤ Lack) (s : List ℕ) (q : ℕ) where
  pub name-alone : (i : ℕ) → over? s i ≡ true → line_with q (Some q) Nothing ≡ after_name look s q i
  unfolding after_name
  name-alone i h = rw h

  pub name-statement : (i : ℕ) → over? s i ≡ false → ended s q (Some q) (statement_at look s true i) ≡ after_name look s q i
  unfolding after_name
  name-statement i h = rw h

  pub line-empty : over? s q ≡ true → line_with q None Nothing ≡ line_from look s q
  unfolding line_from
  line-empty h = rw h

  module _ (h : over? s q ≡ false) (m : Bool) (e : m ≡ free? (word_of (word (drop q s)))) where
    pub line_word : m ≡ false → ended s q None (statement_at look s false q) ≡ line_from look s q
    unfolding line_from
    line_word k = rw (h, sym e ∙ k)

    pub line-name : m ≡ true → letter? (byte_at s q) ≡ true
        → after_name look s q (after blank? s (after name_byte? s q)) ≡ line_from look s q
    unfolding line_from
    line-name k l = rw (h, sym e ∙ k, l)

    pub line-none : m ≡ true → letter? (byte_at s q) ≡ false → None ≡ line_from look s q
    unfolding line_from
    line-none k l = rw (h, sym e ∙ k, l)
