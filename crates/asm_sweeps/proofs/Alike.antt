-- Whether a line fits no statement, or is END, does not depend on names. Assumes nothing.
use mathlib.Core.Path.{◌≡◌, refl, sym, ◌∙◌}
use mathlib.Core.Bool.{false}
use mathlib.Core.List.{List}
use Prim.Native.Nat.{ℕ}
use Rattle.std.specs.Prelude.{ℤ, Option, Some, None, Result}
use Rattle.asm_value.specs.declared.Lack.{Lack}
use Rattle.asm_line.specs.declared.Statement.{Statement}
use Rattle.asm_line.specs.declared.Line.{Line}
use Rattle.asm_words.specs.declared.Valued.{Valued}
use Rattle.asm_words.specs.declared.Valued.TheVariants as val
use Rattle.asm_line.specs.Statement.{with_value}
use Rattle.asm_line.specs.Line.{line_of}
use Rattle.asm_line.proofs.Alike.{Related, AlikeLines, line-related}
use Rattle.asm_write.specs.Written.{layout_of}
use Rattle.asm_sweeps.specs.Form.{faulty?, stops?, end?}

abbrev AnyValues : Result ℤ Lack → Result ℤ Lack → Type 0
AnyValues v w = Unit

-- both are END, or neither is
abbrev Stops : Statement → Statement → Type 0
Stops x y = stops? (layout_of x) ≡ stops? (layout_of y)

-- a statement of one value is not END
value_on_lem : (m : Valued) (v : Result ℤ Lack) → stops? (layout_of (with_value m v)) ≡ false
unfolding with_value layout_of
value_on_lem val.Org v = refl
value_on_lem val.Bss v = refl
value_on_lem val.Byte v = refl
value_on_lem val.Word v = refl
value_on_lem val.Bl v = refl
value_on_lem (val.Branch c) v = refl
value_on_lem val.SetPri v = refl
value_on_lem val.Svc v = refl

stops-related : Related AnyValues Stops
unfolding layout_of
stops-related =
    record {
      itself = λ x. refl;
      of_one = λ m v w h. value_on_lem m v ∙ sym (value_on_lem m w);
      of-equate = λ v w h. refl;
      of-constant = λ op b d v w h. refl;
      of-counts = λ c t u v w g h. refl;
      of-byte = λ op plain d v w h. refl;
      of-load = λ b r d v w h. refl;
      of-store = λ b r d v w h. refl;
    }

alike-form : (r s : Option Line) → AlikeLines AnyValues Stops r s → (faulty? r ≡ faulty? s) × (end? r ≡ end? s)
alike-form None None h = (refl, refl)
alike-form None (Some y) h = absurd h
alike-form (Some x) None h = absurd h
alike-form (Some x) (Some y) h = (refl, h.2)

pub form-alike : (f g : List ℕ → Result ℤ Lack) (l : List ℕ)
    → (faulty? (line_of f l) ≡ faulty? (line_of g l)) × (end? (line_of f l) ≡ end? (line_of g l))
form-alike f g l = alike-form (line_of f l) (line_of g l) (line-related AnyValues Stops stops-related f g (λ e. tt) l)
