-- Bytes put at the start of a buffer, and the length of a line that was put. Assumes nothing.
use mathlib.Core.Path.{◌≡◌, sym, ap, ◌∙◌}
use mathlib.Core.List.{List, ◌++◌}
use Prim.Native.Nat.{ℕ, ◌+◌, ◌≤◌}
use native.Mathlib.Nat.{min-eq_left}
use native.Mathlib.Omega.{arith}
use lib.ListN.{length, take, drop, length-take}
use lib.Seq.{sets}
use Rattle.std.proofs.lemmas.List.Edits.{sets-eq}

-- the bytes in the place of the first n
pub put-first : (m d : List ℕ) (n : ℕ) → length d ≡ n → n ≤ length m → d ++ drop n m ≡ sets m 0 d
put-first m d n e h =
    let f : n ≡ 0 + length d = omega (arith, e) in
    ap (λ k. d ++ drop k m) f ∙ sym (sets-eq d m 0 (omega (arith, e, h)))

-- ---- the first bytes of a buffer
pub first-length : (n : ℕ) (l : List ℕ) → n ≤ length l → length (take n l) ≡ n
first-length n l h = length-take n l ∙ min-eq_left h
