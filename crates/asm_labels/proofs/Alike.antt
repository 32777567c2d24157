-- A line read with more names has the same values where it had any. Assumes nothing.
use mathlib.Core.Path.{◌≡◌, refl, ap, ◌∙◌}
use mathlib.Core.List.{List}
use Prim.Native.Nat.{ℕ}
use native.Mathlib.Omega.{arith}
use lib.IntN.{ℤ}
use Rattle.std.specs.Prelude.{Option, Result, Ok, Err}
use Rattle.asm_value.specs.declared.Lack.{Lack}
use Rattle.asm_value.specs.declared.Lack.TheVariants.{Unknown, Outside}
use Rattle.asm_value.specs.Value.{joined}
use Rattle.asm_expr.specs.Grammar.{Expr, number, name, binary}
use Rattle.asm_expr.specs.Meaning.{value_of}
use Rattle.asm_line.specs.declared.Statement.{Statement}
use Rattle.asm_line.specs.declared.Line.{Line}
use Rattle.asm_words.specs.declared.Valued.{Valued}
use Rattle.asm_words.specs.declared.Valued.TheVariants as val
use Rattle.asm_line.specs.Statement.{with_value}
use Rattle.asm_line.specs.Line.{line_of}
use Rattle.asm_line.proofs.Alike as line
use Rattle.asm_write.specs.declared.Layout.{Layout}
use Rattle.asm_write.specs.declared.Layout.TheVariants.{Bytes, Origin, Equal, Space, Stop}
use Rattle.asm_write.specs.Written.{layout_of}

-- ---- values

-- where v is known, w is the same
abbrev pub Up : Result ℤ Lack → Result ℤ Lack → Type 0
Up v w = (z : ℤ) → v ≡ Ok z → w ≡ Ok z

-- 1 for a value that is known
abbrev pub sure : Result ℤ Lack → ℕ
sure (Ok z) = 1
sure (Err d) = 0

-- what is not known
lack-up : (d : Lack) (w : Result ℤ Lack) → Up (Err d) w
lack-up d w z e = let k : ◌≡◌ {A = ℕ} 0 1 = ap sure e in absurd (omega arith)

up-joined : (op : ℕ) (x y x' y' : Result ℤ Lack) → Up x x' → Up y y' → Up (joined op x y) (joined op x' y')
unfolding joined
up-joined op (Err Unknown) y x' y' f g = lack-up Unknown (joined op x' y')
up-joined op (Err Outside) (Err d) x' y' f g = lack-up d (joined op x' y')
up-joined op (Err Outside) (Ok b) x' y' f g = lack-up Outside (joined op x' y')
up-joined op (Ok a) (Err d) x' y' f g = lack-up d (joined op x' y')
up-joined op (Ok a) (Ok b) x' y' f g = λ z e.
    ap (λ (u : Result ℤ Lack). joined op u y') (f a refl) ∙ ap (joined op (Ok a)) (g b refl) ∙ e

-- ---- what a statement does to the place
abbrev pub Onto : Layout → Layout → Type 0
Onto (Bytes n) (Bytes m) = n ≡ m
Onto (Bytes n) (Origin w) = ⊥
Onto (Bytes n) (Equal w) = ⊥
Onto (Bytes n) (Space w) = ⊥
Onto (Bytes n) Stop = ⊥
Onto (Origin v) (Bytes m) = ⊥
Onto (Origin v) (Origin w) = Up v w
Onto (Origin v) (Equal w) = ⊥
Onto (Origin v) (Space w) = ⊥
Onto (Origin v) Stop = ⊥
Onto (Equal v) (Bytes m) = ⊥
Onto (Equal v) (Origin w) = ⊥
Onto (Equal v) (Equal w) = Up v w
Onto (Equal v) (Space w) = ⊥
Onto (Equal v) Stop = ⊥
Onto (Space v) (Bytes m) = ⊥
Onto (Space v) (Origin w) = ⊥
Onto (Space v) (Equal w) = ⊥
Onto (Space v) (Space w) = Up v w
Onto (Space v) Stop = ⊥
Onto Stop (Bytes m) = ⊥
Onto Stop (Origin w) = ⊥
Onto Stop (Equal w) = ⊥
Onto Stop (Space w) = ⊥
Onto Stop Stop = Unit

onto-self : (l : Layout) → Onto l l
onto-self (Bytes n) = refl
onto-self (Origin v) = λ z e. e
onto-self (Equal v) = λ z e. e
onto-self (Space v) = λ z e. e
onto-self Stop = tt

-- ---- readings

abbrev Laid : Statement → Statement → Type 0
Laid x y = Onto (layout_of x) (layout_of y)

abbrev pub AlikeLines : Option Line → Option Line → Type 0
AlikeLines r s = line.AlikeLines Up Laid r s

-- a statement with a value
value-onto : (m : Valued) (v w : Result ℤ Lack) → Up v w → Onto (layout_of (with_value m v)) (layout_of (with_value m w))
unfolding with_value layout_of
value-onto val.Org v w u = u
value-onto val.Bss v w u = u
value-onto val.Byte v w u = refl
value-onto val.Word v w u = refl
value-onto val.Bl v w u = refl
value-onto (val.Branch c) v w u = refl
value-onto val.SetPri v w u = refl
value-onto val.Svc v w u = refl

laid : line.Related Up Laid
unfolding layout_of
laid =
    record {
      itself = λ x. onto-self (layout_of x);
      of_one = value-onto;
      of-equate = λ v w u. u;
      of-constant = λ op b d v w h. refl;
      of-counts = λ c t u v w g h. refl;
      of-byte = λ op plain d v w h. refl;
      of-load = λ b r d v w h. refl;
      of-store = λ b r d v w h. refl;
    }

-- f and f' give values to names; f' knows what f does
module _ (f f' : List ℕ → Result ℤ Lack) (up : (n : List ℕ) → Up (f n) (f' n)) (s : List ℕ) where
  up-value : (e : Expr) → Up (value_of f e) (value_of f' e)
  unfolding value_of
  up-value (number z) = λ y e. e
  up-value (name n) = up n
  up-value (binary op a b) = up-joined op (value_of f a) (value_of f b) (value_of f' a) (value_of f' b) (up-value a) (up-value b)

  pub line-up : AlikeLines (line_of f s) (line_of f' s)
  line-up = line.line-related Up Laid laid f f' up-value s
