-- The reply to a number, by cases. Assumes nothing.
use Prim.Native.Nat.{ℕ}
use mathlib.Core.Path.{◌≡◌, sym, ◌∙◌}
use borrow.Author.Tests.{eq-eqb, ne_eqb}
use Rattle.std.specs.Prelude.{Option}
use Rattle.isa.specs.Encode.{encode_of}
use Rattle.isa_number.specs.Number.{number_of, instr_of}
use Rattle.isa_number.specs.Reply.{reply_of, encode_number}

module _ (n r : ℕ) (e : r ≡ number_of (instr_of n)) where
  -- n is not the number of the instruction that its bytes name
  pub reply-other : (r ≡ n → ⊥) → encode_number n ≡ 8
  unfolding encode_number
  reply-other h = simp (ne_eqb (number_of (instr_of n)) n (λ q. h (e ∙ q)))

  -- n is that number
  pub reply-encoded : (x : Option ℕ) → r ≡ n → encode_of (instr_of n) ≡ x → encode_number n ≡ reply_of x
  unfolding encode_number
  reply-encoded x h k = simp (eq-eqb (number_of (instr_of n)) n (sym e ∙ h), k)
