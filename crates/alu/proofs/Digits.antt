-- Decimal sums: what one digit leaves. Assumes nothing.
use mathlib.Core.Path.{◌≡◌}
use mathlib.Core.Logic.{⊎_elim}
use Prim.Native.Nat.{ℕ, ◌+◌, ◌*◌, ◌/◌, ◌%◌, ◌≤◌, ◌<◌}
use native.Mathlib.Omega.{arith}
use borrow.Author.Tests.{lt-ltb, le-ltb}
use Rattle.word.proofs.Laws.{order}
use Rattle.alu.specs.Decimal.{digit_of, digit_carry}

-- one digit: below 16 with a carry of at most 1, and from two decimal digits a decimal digit that loses nothing
pub digit-bounds : (s : ℕ) → (digit_of s < 16) × (digit_carry s ≤ 1)
unfolding digit_of digit_carry
digit-bounds s =
    ⊎_elim (λ (h : s ≤ 9). rw (le-ltb 9 s h) (omega arith, omega arith))
    (λ (h : 9 < s). rw (lt-ltb 9 s h) (omega arith, omega arith)) (order s 9)

pub digit-exact : (s : ℕ) → s ≤ 19 → (digit_of s + 10 * digit_carry s ≡ s) × (digit_of s ≤ 9)
unfolding digit_of digit_carry
digit-exact s k =
    ⊎_elim (λ (h : s ≤ 9). rw (le-ltb 9 s h) (omega arith, omega arith))
    (λ (h : 9 < s). rw (lt-ltb 9 s h) (omega arith, omega arith)) (order s 9)

-- the lowest digit, and the rest
pub lowest : (d v : ℕ) → d < 16 → ((d + 16 * v) % 16 ≡ d) × ((d + 16 * v) / 16 ≡ v)
lowest d v h = (omega arith, omega arith)

-- one more digit d below a sum that stands for v, with x its carry at its weight, and y ten times that
pub carried : (d v x y a b k a₀ b₀ c : ℕ) → y ≡ x * 10 → v + x ≡ a + b + k → d + 10 * k ≡ a₀ + b₀ + c
    → d + 10 * v + y ≡ a₀ + 10 * a + (b₀ + 10 * b) + c
carried d v x y a b k a₀ b₀ c e f g = omega arith
