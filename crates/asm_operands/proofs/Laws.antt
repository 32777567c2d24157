-- Laws of the operands: what the code finds at a place, after blanks, is what the definitions say. In each law q is the
-- place after the blanks from i on, b the byte there. Assumes nothing.
use mathlib.Core.Path.{◌≡◌, refl, sym, ap, ◌∙◌}
use mathlib.Core.Bool.{Bool, true, false, cond, ◌||◌, ◌&&◌, not}
use mathlib.Core.List.{List, []}
use Prim.Native.Nat.{ℕ, zero, suc, ◌+◌, ◌^◌}
use Rattle.word.proofs.Laws.{bool_cases}
use lib.Dec.{ltb, eqb}
use borrow.Author.Tests.{eq-eqb, ne_eqb}
use lib.IntN.{ℤ, pos, negsuc, ◌+ℤ◌, ◌-ℤ◌, ◌*ℤ◌}
use lib.Signed.{mag}
use Rattle.std.specs.Prelude.{Option, Some, None, Result, Ok, Err}
use Rattle.asm_value.specs.declared.Lack.{Lack}
use Rattle.asm_value.specs.declared.Lack.TheVariants.{Unknown, Outside}
use Rattle.asm_value.specs.Value.{fitted, towards_zero, quotient, applied, joined}
use Rattle.asm_text.specs.Text.{byte_at, blank?, after, look_up_at}
use Rattle.asm_text.specs.declared.Read.{Read}
use Rattle.asm_expr.specs.Grammar.{Expr, number, name, binary, Parse, parsed, malformed, named?, factor_of}
use Rattle.asm_expr.specs.Meaning.{value_of, answer_of}
use Rattle.asm_operands.specs.Operands.{nameless?, number?, comma?}

-- ---- a byte after blanks
module _ (s : List ℕ) (i q b : ℕ) (e : q ≡ after blank? s i) (f : b ≡ byte_at s q) where
  pub byte-there : b ≡ byte_at s (after blank? s i)
  byte-there = f ∙ ap (byte_at s) e

  pub is_byte : (k : ℕ) → b ≡ k → eqb (byte_at s (after blank? s i)) k ≡ true
  is_byte k h = eq-eqb (byte_at s (after blank? s i)) k (sym byte-there ∙ h)

  pub no_byte : (k : ℕ) → (b ≡ k → ⊥) → eqb (byte_at s (after blank? s i)) k ≡ false
  no_byte k h = ne_eqb (byte_at s (after blank? s i)) k (λ z. h (byte-there ∙ z))

  pub at-comma : b ≡ 44 → Some (q + 1) ≡ cond (comma? s i) (Some (after blank? s i + 1)) None
  unfolding comma?
  at-comma h = rw (is_byte 44 h) (ap (λ k. Some (k + 1)) e)

  pub no-comma : (b ≡ 44 → ⊥) → None ≡ cond (comma? s i) (Some (after blank? s i + 1)) None
  unfolding comma?
  no-comma h = rw (no_byte 44 h)

-- ---- a number

-- it is not that a name is unknown
abbrev pub known? : Result ℤ Lack → Bool
known? (Err Unknown) = false
known? (Ok z) = true
known? (Err Outside) = true

-- an answer whose value is not that of an unknown name
abbrev pub told? : Option (Read (Result ℤ Lack)) → Bool
told? None = false
told? (Some r) = known? r.value

known-fitted : (z : ℤ) → known? (fitted z) ≡ true
unfolding fitted
known-fitted z = bool_cases (ltb (mag z) (2 ^ 31)) (λ q. rw q refl) (λ q. rw q refl)

known-quotient : (x y : ℤ) → known? (quotient x y) ≡ true
known-quotient x (pos zero) = refl
known-quotient x (pos (suc n)) = known-fitted (towards_zero x (pos (suc n)))
known-quotient x (negsuc n) = known-fitted (towards_zero x (negsuc n))

known-applied : (op : ℕ) (x y : ℤ) → known? (applied op x y) ≡ true
unfolding applied
known-applied op x y =
    bool_cases (eqb op 43) (λ q. rw q (known-fitted (x +ℤ y)))
    (λ q. rw q (bool_cases (eqb op 45) (λ r. rw r (known-fitted (x -ℤ y)))
    (λ r. rw r (bool_cases (eqb op 42) (λ t. rw t (known-fitted (x *ℤ y))) (λ t. rw t (known-quotient x y))))))

known_joined : (op : ℕ) (a b : Result ℤ Lack) → known? (joined op a b) ≡ known? a && known? b
unfolding joined
known_joined op (Err Unknown) b = refl
known_joined op (Err Outside) (Err e) = refl
known_joined op (Err Outside) (Ok y) = refl
known_joined op (Ok x) (Err e) = refl
known_joined op (Ok x) (Ok y) = known-applied op x y

not-either : (a b : Bool) → not a && not b ≡ not (a || b)
not-either true b = refl
not-either false b = refl

-- where no name has a value, a value is known exactly if no name stands in it
module _ (t : List ℕ) where
  known-value : (e : Expr) → known? (value_of (look_up_at t []) e) ≡ not (named? e)
  unfolding value_of named? look_up_at
  known-value (number z) = known-fitted z
  known-value (name n) = refl
  known-value (binary op a b) =
      known_joined op (value_of (look_up_at t []) a) (value_of (look_up_at t []) b)
      ∙ ap (λ x. x && known? (value_of (look_up_at t []) b)) (known-value a)
      ∙ ap (λ x. not (named? a) && x) (known-value b)
      ∙ not-either (named? a) (named? b)

  told-parse : (p : Parse) → told? (answer_of (look_up_at t []) p) ≡ nameless? p
  unfolding answer_of nameless?
  told-parse malformed = refl
  told-parse (parsed e i) = known-value e

  pub number-told : (s : List ℕ) (i : ℕ) {a : Option (Read (Result ℤ Lack))} → a ≡ answer_of (look_up_at t []) (factor_of 16 s i)
      → told? a ≡ number? s i
  unfolding number?
  number-told s i e = ap told? e ∙ told-parse (factor_of 16 s i)
