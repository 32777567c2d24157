-- What an expression comes to, with the values of the names. Assumes nothing.
use Rattle.std.specs.Prelude.{cond, List, ℕ, ◌+◌, eqb, ℤ, Option, Some, None, Result}
use Prim.Native.Char.{code}
use Rattle.asm_value.specs.declared.Lack.{Lack}
use Rattle.asm_value.specs.Value.{fitted, joined}
use Rattle.asm_text.specs.Text.{byte_at, blank?, after, found}
use Rattle.asm_text.specs.declared.Read.{Read}
use Rattle.asm_expr.specs.Grammar.{Expr, number, name, binary, Parse, parsed, malformed}

-- every number and every result is in 32 signed bits, else 19. [02 §12]
unfoldable pub value_of : (List ℕ → Result ℤ Lack) → Expr → Result ℤ Lack
value_of look (number z) = fitted z
value_of look (name n) = look n
value_of look (binary op a b) = joined op (value_of look a) (value_of look b)

-- the answer for what the grammar gives
unfoldable pub answer_of : (List ℕ → Result ℤ Lack) → Parse → Option (Read (Result ℤ Lack))
answer_of look malformed = None
answer_of look (parsed e i) = found (value_of look e) i

-- an answer, and ) after it
unfoldable pub shut : List ℕ → Option (Read (Result ℤ Lack)) → Option (Read (Result ℤ Lack))
shut s None = None
shut s (Some r) = cond (eqb (byte_at s (after blank? s r.next)) (code ")")) (found r.value (after blank? s r.next + 1)) None
