-- Buffers that are bytes, told by a test that can be computed: for sessions written out. Assumes nothing.
use Prim.Native.Nat.{ℕ, zero, suc}
use mathlib.Core.Bool.{Bool, true, ◌&&◌}
use mathlib.Core.List.{List, [], ◌∷◌}
use mathlib.Core.Path.{◌≡◌}
use lib.Dec.{ltb, lit<}
use lib.ListN.{replicate}
use Rattle.machine_laws.specs.Bounds.{Bytes}
use Rattle.machine_laws.proofs.Cases.{lt_of, and_left, and_right}

-- every one is below 256
unfoldable pub low? : List ℕ → Bool
low? [] = true
low? (v ∷ b) = ltb v 256 && low? b

pub zeros-bytes : (n : ℕ) → Bytes (replicate n 0)
zeros-bytes zero a = lit< tt
zeros-bytes (suc n) zero = lit< tt
zeros-bytes (suc n) (suc a) = zeros-bytes n a

pub bytes_of : (b : List ℕ) → low? b ≡ true → Bytes b
unfolding low?
bytes_of [] e i = lit< tt
bytes_of (v ∷ b) e zero = lt_of (and_left (ltb v 256) (low? b) e)
bytes_of (v ∷ b) e (suc i) = bytes_of b (and_right (ltb v 256) (low? b) e) i
