-- A line's name stands in the line. Assumes nothing.
use mathlib.Core.Path.{◌≡◌, refl, ap, subst}
use mathlib.Core.Bool.{Bool, true, false, cond, not}
use mathlib.Core.List.{List}
use Prim.Native.Nat.{ℕ, ◌<◌}
use native.Mathlib.Omega.{arith}
use lib.ListN.{length, drop}
use Rattle.std.specs.Prelude.{ℤ, Option, Some, None, Result}
use Rattle.asm_value.specs.declared.Lack.{Lack}
use Rattle.asm_text.specs.declared.Read.{Read}
use Rattle.asm_text.specs.Text.{byte_at, blank?, letter?, name_byte?, after, word}
use Rattle.asm_text.proofs.Laws.{kind-in}
use Rattle.asm_words.specs.Words.{word_of, free?}
use Rattle.asm_operands.specs.Operands.{over?}
use Rattle.asm_line.specs.declared.Statement.{Statement}
use Rattle.asm_line.specs.declared.Statement.TheVariants.{Nothing}
use Rattle.asm_line.specs.declared.Line.{Line}
use Rattle.asm_line.specs.Line.{line_with, ended, statement_at, after_name, line_from, line_of}

-- a name, where there is one, stands below the end of a text
abbrev Below : List ℕ → Option ℕ → Type 0
Below s name = (q : ℕ) → name ≡ Some q → q < length s

-- a line's name
abbrev InLine : List ℕ → Option Line → Type 0
InLine s None = Unit {0}
InLine s (Some y) = Below s y.name

abbrev place : Option ℕ → ℕ
place None = 0
place (Some q) = q

abbrev count : Option ℕ → ℕ
count None = 0
count (Some q) = 1

unnamed : (s : List ℕ) → Below s None
unnamed s q e = let z : 0 ≡ 1 = ap count e in absurd (omega (arith, z))

named : (s : List ℕ) (q : ℕ) → q < length s → Below s (Some q)
named s q h k e = subst (λ (n : ℕ). n < length s) (ap place e) h

letter-zero : letter? 0 ≡ false
unfolding letter?
letter-zero = refl

module _ (s : List ℕ) where
  -- one of two readings
  either : (b : Bool) (r t : Option Line) → (b ≡ true → InLine s r) → (b ≡ false → InLine s t) → InLine s (cond b r t)
  either true r t f g = f refl
  either false r t f g = g refl

  ended-in : (start : ℕ) (name : Option ℕ) → Below s name → (x : Option (Read Statement)) → InLine s (ended s start name x)
  ended-in start name h None = tt
  ended-in start name h (Some r) = either (over? s (after blank? s r.next)) (line_with start name r.value) None (λ e. h) (λ e. tt)

  line-in : (look : List ℕ → Result ℤ Lack) (q : ℕ) → InLine s (line_from look s q)
  unfolding line_from after_name
  line-in look q =
      either (over? s q) (line_with q None Nothing) _ (λ e. unnamed s)
      (λ e. either (not (free? (word_of (word (drop q s))))) (ended s q None (statement_at look s false q)) _
      (λ e. ended-in q None (unnamed s) (statement_at look s false q))
      (λ e. either (letter? (byte_at s q)) (after_name look s q (after blank? s (after name_byte? s q))) None
      (λ k. let h = named s q (kind-in letter? letter-zero s q k) in
      either (over? s (after blank? s (after name_byte? s q))) (line_with q (Some q) Nothing)
      (ended s q (Some q) (statement_at look s true (after blank? s (after name_byte? s q)))) (λ d. h)
      (λ d. ended-in q (Some q) h (statement_at look s true (after blank? s (after name_byte? s q))))) (λ k. tt)))

pub line-named : (look : List ℕ → Result ℤ Lack) (l : List ℕ) (y : Line) (q : ℕ) → line_of look l ≡ Some y → y.name ≡ Some q → q < length l
unfolding line_of
line-named look l y q e h = subst (InLine l) e (line-in l look (after blank? l 0)) q h
