-- Whether a line fits the language, whether it has a name, and where the name stands depend on its bytes alone, not on
-- the values of names: 17 is decided before any name is known. Assumes nothing.
use mathlib.Core.List.{List}
use Prim.Native.Nat.{ℕ}
use Rattle.std.specs.Prelude.{ℤ, Result}
use Rattle.asm_value.specs.declared.Lack.{Lack}
use Rattle.asm_line.specs.declared.Statement.{Statement}
use Rattle.asm_line.specs.Line.{line_of}
use Rattle.asm_line.proofs.Alike.{Related, AlikeLines, line-related}

-- any two values, and any two statements
abbrev AnyValues : Result ℤ Lack → Result ℤ Lack → Type 0
AnyValues v w = Unit

abbrev pub AnyStatements : Statement → Statement → Type 0
AnyStatements x y = Unit

any-related : Related AnyValues AnyStatements
any-related =
    record {
      itself = λ x. tt;
      of_one = λ m v w h. tt;
      of-equate = λ v w h. tt;
      of-constant = λ op b d v w h. tt;
      of-counts = λ c t u v w g h. tt;
      of-byte = λ op plain d v w h. tt;
      of-load = λ b r d v w h. tt;
      of-store = λ b r d v w h. tt;
    }

-- 17 and names, with any two tables: "17 is tried over the whole source, then 18, then 19". [02 §12]
pub line-alike : (f f' : List ℕ → Result ℤ Lack) (s : List ℕ) → AlikeLines AnyValues AnyStatements (line_of f s) (line_of f' s)
line-alike f f' s = line-related AnyValues AnyStatements any-related f f' (λ e. tt) s
