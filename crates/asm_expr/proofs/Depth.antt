-- Brackets one in another: as many as are left may be opened, and no more. Assumes nothing.
use mathlib.Core.Path.{◌≡◌, ap, ◌∙◌}
use Prim.Native.Nat.{ℕ, zero, suc, ◌+◌, ◌≤◌}
use native.Mathlib.Nat.{add-zero, add_assoc}
use native.Mathlib.Omega.{arith}
use mathlib.Core.List.{List}
use borrow.Author.Tests.{eq-eqb}
use Rattle.asm_text.proofs.Laws.{after_stop}
use Rattle.asm_text.specs.Text.{byte_at, blank?, after}
use Rattle.asm_expr.specs.Grammar.{malformed, parts_of, factor_with, factor_of}

not-blank : (s : List ℕ) (i : ℕ) → byte_at s i ≡ 40 → after blank? s i ≡ i
unfolding blank?
not-blank s i e = after_stop blank? s i (rw e)

-- k + 1 brackets opened at i, where k may be: 17. With k = 16, the 17th bracket. [02 §12]
pub too-deep : (k : ℕ) (s : List ℕ) (i : ℕ) → ((j : ℕ) → j ≤ k → byte_at s (i + j) ≡ 40) → factor_of k s i ≡ malformed
unfolding factor_of factor_with parts_of
too-deep zero s i h =
    let b : byte_at s i ≡ 40 = rw (add-zero i) at (h 0 (omega arith)) in
    rw (not-blank s i b, eq-eqb (byte_at s i) 40 b)
too-deep (suc k) s i h =
    let b : byte_at s i ≡ 40 = rw (add-zero i) at (h 0 (omega arith)) in
    let r : factor_of k s (i + 1) ≡ malformed =
    too-deep k s (i + 1) (λ j l. ap (byte_at s) (add_assoc i 1 j) ∙ h (1 + j) (omega arith)) in
    rw (not-blank s i b, eq-eqb (byte_at s i) 40 b, r)
