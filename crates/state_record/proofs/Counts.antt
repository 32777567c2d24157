-- Each byte of the counts is two devices'. Assumes nothing.
use Prim.Native.Nat.{ℕ, zero, suc, ◌+◌, ◌*◌, ◌/◌, ◌%◌, ◌<◌}
use mathlib.Core.Path.{◌≡◌, ap, sym, ◌∙◌}
use native.Mathlib.Nat.{div-div-eq-div-mul}
use native.Mathlib.Omega.{arith}
use Rattle.machine.specs.Memory.{byte_at}
use Rattle.machine.specs.Record.{state_in}
use Rattle.state_record.specs.Counts.{CountsInRecord}

-- the halves of a byte x with y above it
halves_of : (n x y : ℕ) → x < 256 → n ≡ x + 256 * y → (n % 16 ≡ x % 16) × (n / 16 % 16 ≡ x / 16)
halves_of n x y h e = (omega arith, omega arith)

module _ (a b c d : ℕ) where
  from-1 : a < 256 → (a + 256 * b + 65536 * (c + 256 * d)) / 256 ≡ b + 256 * (c + 256 * d)
  from-1 h = omega arith

  from-2 : a < 256 → b < 256 → (a + 256 * b + 65536 * (c + 256 * d)) / 65536 ≡ c + 256 * d
  from-2 h k = omega arith

  from-3 : a < 256 → b < 256 → c < 256 → (a + 256 * b + 65536 * (c + 256 * d)) / 16777216 ≡ d
  from-3 h k l = omega arith

-- a number's two halves of four bits from bit 8 × i on, as the counts of two devices are read
pair : (n k x y : ℕ) → x < 256 → n / k ≡ x + 256 * y → (n / k % 16 ≡ x % 16) × (n / (k * 16) % 16 ≡ x / 16)
pair n k x y h e =
    let p = halves_of (n / k) x y h e in
    (p.0, ap (λ (q : ℕ). q % 16) (sym (div-div-eq-div-mul n k 16)) ∙ p.1)

pub counts-in-record : CountsInRecord
unfolding state_in
counts-in-record r mem f zero h =
    let a = byte_at r 26 in
    let b = byte_at r 27 in
    let c = byte_at r 28 in
    let d = byte_at r 29 in
    pair (a + 256 * b + 65536 * (c + 256 * d)) 1 a (b + 256 * (c + 256 * d)) (f 26) (omega arith)
counts-in-record r mem f (suc zero) h =
    pair _ 256 (byte_at r 27) _ (f 27) (from-1 (byte_at r 26) (byte_at r 27) (byte_at r 28) (byte_at r 29) (f 26))
counts-in-record r mem f (suc (suc zero)) h =
    pair _ 65536 (byte_at r 28) _ (f 28) (from-2 (byte_at r 26) (byte_at r 27) (byte_at r 28) (byte_at r 29) (f 26) (f 27))
counts-in-record r mem f (suc (suc (suc zero))) h =
    let e = from-3 (byte_at r 26) (byte_at r 27) (byte_at r 28) (byte_at r 29) (f 26) (f 27) (f 28) in
    pair _ 16777216 (byte_at r 29) 0 (f 29) (omega (arith, e))
counts-in-record r mem f (suc (suc (suc (suc i)))) h = absurd (omega arith)
