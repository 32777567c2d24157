-- Two lists of writes that leave the same bytes outside the device registers. Assumes nothing.
use Prim.Native.Nat.{ℕ, ◌+◌, ◌≤◌}
use mathlib.Core.Bool.{Bool, true, false}
use mathlib.Core.List.{List, [], ◌∷◌, ◌++◌}
use mathlib.Core.Path.{◌≡◌, refl, sym, ap, ◌∙◌}
use Rattle.machine.specs.Memory.{Write, write, commit, writes?, even, low_byte, high_byte}
use Rattle.machine.specs.Devices.{device?, load_writes, byte_writes, store_writes}
use Rattle.machine_laws.proofs.Cases.{bool_cases}
use Rattle.machine_laws.proofs.Memory.{over, over-unwritten, over-written, over-append, writes-append}
use Rattle.machine_laws.proofs.Writes.{InDevices, devices-untouched, load-devices, store-devices}

-- the same byte at each address from 16 up, if it was the same before or the first list writes it
abbrev pub SameWrites : List Write → List Write → Type 0
SameWrites ws vs = (a x y : ℕ) → 16 ≤ a → (writes? ws a ≡ false → x ≡ y) → over ws a x ≡ over vs a y

pub same_refl : (ws : List Write) → SameWrites ws ws
same_refl ws a x y h q =
    bool_cases (writes? ws a)
    (λ e. over-written ws a x y e) (λ e. ap (over ws a) (q e))

same-append : (ws ws' vs vs' : List Write) → SameWrites ws ws' → SameWrites vs vs' → SameWrites (ws ++ vs) (ws' ++ vs')
same-append ws ws' vs vs' f g a x y h q =
    over-append ws vs a x
    ∙ g a (over ws a x) (over ws' a y) h (λ e. f a x y h (λ e'. q (writes-append ws vs a ∙ rw (e', e) refl)))
    ∙ sym (over-append ws' vs' a y)

same-devices : (ws vs : List Write) → InDevices ws → InDevices vs → SameWrites ws vs
same-devices ws vs p q a x y h e =
    over-unwritten ws a x (devices-untouched ws a p h)
    ∙ e (devices-untouched ws a p h)
    ∙ sym (over-unwritten vs a y (devices-untouched vs a q h))

-- ---- loads and stores by instructions, in two memories

pub load_same : (byte : Bool) (m m' : List ℕ) (a : ℕ) → SameWrites (load_writes byte m a) (load_writes byte m' a)
load_same byte m m' a = same-devices (load_writes byte m a) (load_writes byte m' a) (load-devices byte m a) (load-devices byte m' a)

byte-same : (m m' : List ℕ) (a v : ℕ) → SameWrites (byte_writes m a v) (byte_writes m' a v)
byte-same m m' a v =
    bool_cases (device? a)
    (λ q. same-devices (byte_writes m a v) (byte_writes m' a v) (store-devices m a v q) (store-devices m' a v q))
    (λ q. rw q (same_refl (write a v ∷ [])))

pub store_same : (byte : Bool) (m m' : List ℕ) (a v : ℕ) → SameWrites (store_writes byte m a v) (store_writes byte m' a v)
store_same true m m' a v = byte-same m m' a (low_byte v)
store_same false m m' a v =
    let lo = byte_writes m (even a) (low_byte v) in
    let lo' = byte_writes m' (even a) (low_byte v) in
    same-append lo lo' (byte_writes (commit lo m) (even a + 1) (high_byte v)) (byte_writes (commit lo' m') (even a + 1) (high_byte v))
    (byte-same m m' (even a) (low_byte v)) (byte-same (commit lo m) (commit lo' m') (even a + 1) (high_byte v))
