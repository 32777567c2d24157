-- A line that waits below the priority goes on waiting: what is written below the vectors changes no vector, so the best
-- line and its priority stay. Assumes nothing.
use Prim.Native.Nat.{ℕ, zero, suc, ◌+◌, ◌*◌, ◌<◌, ◌≤◌}
use native.Mathlib.Omega.{arith}
use mathlib.Core.Bool.{Bool, true, false, cond, ◌&&◌}
use mathlib.Core.List.{List, [], ◌∷◌}
use mathlib.Core.Path.{◌≡◌, refl, ap, ◌∙◌}
use lib.Dec.{ltb}
use lib.ListN.{set}
use lib.Seq.{get_or-set_other}
use Rattle.word.specs.Psw.{current}
use Rattle.machine.specs.Memory.{Write, commit, byte_at, even, low_byte, high_byte}
use Rattle.machine.specs.Devices.{waiting, load_writes, byte_writes, store_writes}
use Rattle.machine.specs.Entry.{priority, best_from, best, above}
use Rattle.machine_laws.specs.Bounds.{Each}
use Rattle.machine_laws.proofs.Cases.{not-lt}
use Rattle.machine_laws.proofs.Writes.{InDevices, load-devices, store-plain}

-- every write is below the vectors
abbrev pub BelowVectors : List Write → Type 0
BelowVectors ws = Each (λ w. w.addr < 65472) ws

-- ---- what loads write, and stores below the vectors

below_of : (ws : List Write) → InDevices ws → BelowVectors ws
below_of [] h = tt
below_of (w ∷ ws) h = let k = h.0 in (omega (arith, k), below_of ws h.1)

pub load_below : (byte : Bool) (m : List ℕ) (a : ℕ) → BelowVectors (load_writes byte m a)
load_below byte m a = below_of (load_writes byte m a) (load-devices byte m a)

pub store_below : (byte : Bool) (m : List ℕ) (a v : ℕ) → 16 ≤ a → a < 65472 → BelowVectors (store_writes byte m a v)
store_below true m a v h k = rw (store-plain m a (low_byte v) (not-lt h)) (k, tt)
store_below false m a v h k =
    let lo = byte_writes m (even a) (low_byte v) in
    rw (
      store-plain (commit lo m) (even a + 1) (high_byte v) (not-lt {m = even a + 1} {n = 16} (omega arith)),
      store-plain m (even a) (low_byte v) (not-lt {m = even a} {n = 16} (omega arith)),
    ) (omega arith, (omega arith, tt))

-- ---- what stays

byte-kept : (ws : List Write) (m : List ℕ) (b : ℕ) → 65472 ≤ b → BelowVectors ws → byte_at (commit ws m) b ≡ byte_at m b
unfolding commit
byte-kept [] m b h e = refl
byte-kept (w ∷ ws) m b h e =
    let k = e.0 in
    byte-kept ws (set m w.addr w.value) b h e.1
    ∙ get_or-set_other m w.addr b w.value 0 (λ q. let z : ⊥ = omega (arith, h, k, q) in z)

priority-kept : (ws : List Write) (m : List ℕ) (d : ℕ) → BelowVectors ws → priority (commit ws m) d ≡ priority m d
priority-kept ws m d e =
    let lo = byte-kept ws m (even (0xFFC0 + 4 * d)) (omega arith) e in
    let hi = byte-kept ws m (even (0xFFC0 + 4 * d) + 1) (omega arith) e in
    λ i. current (lo i + 256 * hi i)

module _ (l : ℕ) (m k : List ℕ) (same : (d : ℕ) → priority k d ≡ priority m d) where
  best-from : (n d : ℕ) → best_from n d l k ≡ best_from n d l m
  unfolding best_from
  best-from zero d = refl
  best-from (suc n) d =
      let e = best-from n (suc d) in
      let q : priority k (best_from n (suc d) l k) ≡ priority m (best_from n (suc d) l m) = same _ ∙ ap (priority m) e in
      λ i. cond (waiting l d) (cond (ltb (e i) 8 && ltb (same d i) (q i)) (e i) d) (e i)

  above_same : (p : ℕ) → above k (best l k) p ≡ above m (best l m) p
  above_same p =
      let e : best l k ≡ best l m = best-from 8 0 in
      let q : priority k (best l k) ≡ priority m (best l m) = same _ ∙ ap (priority m) e in
      λ i. ltb (e i) 8 && ltb p (q i)

-- is the best line above the priority p? as before the writes
pub above_kept :
    (ws : List Write) (m : List ℕ) (l p : ℕ) → BelowVectors ws →
    above (commit ws m) (best l (commit ws m)) p ≡ above m (best l m) p
above_kept ws m l p e = above_same l m (commit ws m) (λ d. priority-kept ws m d e) p
