-- CEX's conditions and the branches by the flags as they are kept: each is that of the PSW with them, whatever its other bits. A branch's
-- condition is one of CEX's, by a table of numbers. Assumes nothing.
use Prim.Native.Nat.{ℕ, zero, suc, ◌/◌, ◌%◌, ◌<◌}
use mathlib.Core.Bool.{Bool, true, false, not, ◌&&◌, ◌||◌, beq}
use mathlib.Core.Path.{◌≡◌, refl, sym, ap, ap₂, ◌∙◌}
use native.Mathlib.Omega.{arith}
use lib.Dec.{eqb}
use lib.Bits.{bit_or, bit_xor}
use lib.Pow.{shr-shr}
use Rattle.word.specs.Psw.{bit_of}
use Rattle.machine.specs.Cex.{condition_of, at_least?}
use Rattle.machine.specs.Effect.{taken_of}
use Rattle.flags.specs.Kept.{held, nothing?, minus?}
use Rattle.flags.proofs.Bits.{or-bit, xor-bit}
use Rattle.flags.proofs.Laws.{held-carry, held-zero, held-negative, held-overflow}

twice : (x : Bool) → not (not x) ≡ x
twice true = refl
twice false = refl

module _ (p last sum over : ℕ) where
  pub at-least-kept : not (bit_of 15 (bit_xor (bit_or last (last / 8)) over)) ≡ at_least? (held p last sum over)
  at-least-kept =
      let n : bit_of 15 (bit_or last (last / 8)) ≡ minus? last =
      or-bit 15 last (last / 8) ∙ ap (λ (x : ℕ). bit_of 15 last || eqb (x % 2) 1) (shr-shr last 3 15) in
      ap not (xor-bit 15 (bit_or last (last / 8)) over) ∙ twice (beq (bit_of 15 (bit_or last (last / 8))) (bit_of 15 over))
      ∙ ap₂ beq (n ∙ sym (held-negative p last sum over)) (sym (held-overflow p last sum over))

  pub equal-kept : {z : Bool} → z ≡ nothing? last → z ≡ condition_of 0 (held p last sum over)
  unfolding condition_of
  equal-kept e = e ∙ sym (held-zero p last sum over)

  pub carry-kept : bit_of 16 sum ≡ condition_of 2 (held p last sum over)
  unfolding condition_of
  carry-kept = sym (held-carry p last sum over)

  pub negative-kept : {n : Bool} → n ≡ minus? last → n ≡ condition_of 4 (held p last sum over)
  unfolding condition_of
  negative-kept e = e ∙ sym (held-negative p last sum over)

  pub overflow-kept : bit_of 15 over ≡ condition_of 6 (held p last sum over)
  unfolding condition_of
  overflow-kept = sym (held-overflow p last sum over)

  pub higher-kept : {z : Bool} → z ≡ nothing? last → bit_of 16 sum && not z ≡ condition_of 8 (held p last sum over)
  unfolding condition_of
  higher-kept e = λ i. sym (held-carry p last sum over) i && not ((e ∙ sym (held-zero p last sum over)) i)

  pub greater-kept : {z g : Bool} → z ≡ nothing? last → g ≡ at_least? (held p last sum over)
      → not z && g ≡ condition_of 12 (held p last sum over)
  unfolding condition_of
  greater-kept e f = λ i. not ((e ∙ sym (held-zero p last sum over)) i) && f i

-- ---- branches

-- CEX's condition n is that of branch k
abbrev pub Numbered : (k n : ℕ) → Type 0
Numbered k n = (n < 16) × ((p : ℕ) → condition_of n p ≡ taken_of k p)

same_number : (k p : ℕ) → k < 5 → condition_of k p ≡ taken_of k p
unfolding condition_of taken_of
same_number zero p h = refl
same_number (suc zero) p h = refl
same_number (suc (suc zero)) p h = refl
same_number (suc (suc (suc zero))) p h = refl
same_number (suc (suc (suc (suc zero)))) p h = refl
same_number (suc (suc (suc (suc (suc k))))) p h = absurd (omega arith)

module _ {k n : ℕ} where
  pub numbered-ge : k ≡ 5 → n ≡ 10 → Numbered k n
  unfolding condition_of taken_of
  numbered-ge e f = rw (e, f) (omega arith, λ p. refl)

  pub numbered-lt : k ≡ 6 → n ≡ 11 → Numbered k n
  unfolding condition_of taken_of
  numbered-lt e f = rw (e, f) (omega arith, λ p. refl)

  pub numbered-always : k ≡ 7 → n ≡ 14 → Numbered k n
  unfolding condition_of taken_of
  numbered-always e f = rw (e, f) (omega arith, λ p. refl)

  pub numbered-same : k < 8 → (k ≡ 5 → ⊥) → (k ≡ 6 → ⊥) → (k ≡ 7 → ⊥) → n ≡ k → Numbered k n
  numbered-same h a b c e = rw e (omega arith, λ p. same_number k p (omega arith))
