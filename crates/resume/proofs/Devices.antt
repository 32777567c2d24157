-- A run with no SVC: every frame is a device's. Assumes nothing.
use Prim.Native.Nat.{ℕ, zero, suc, ◌<◌, ◌≤◌}
use mathlib.Core.Bool.{false, true≢false}
use mathlib.Core.List.{List, [], ◌∷◌}
use mathlib.Core.Path.{◌≡◌, refl, sym, subst}
use native.Mathlib.Omega.{arith}
use Rattle.machine.specs.State.{State}
use Rattle.machine.specs.Events.{Event}
use Rattle.machine.specs.declared.Act.{Act}
use Rattle.machine.specs.declared.Act.TheVariants as acts
use Rattle.machine_laws.specs.Bounds.{Each}
use Rattle.resume.specs.Frames.{Frame, frame, none?, own?, older, chained, frames_after, svc?, after, act, frames}

-- each of the frames is a device's
abbrev pub Devices : List Frame → Type 0
Devices fs = Each (λ f. f.own ≡ false) fs

pub devices-own : (fs : List Frame) → Devices fs → own? fs ≡ none? fs
devices-own [] h = refl
devices-own (f ∷ fs) h = rw h.0 refl

devices-older : (fs : List Frame) → Devices fs → Devices (older fs)
devices-older [] h = tt
devices-older (f ∷ fs) h = h.1

-- a chaining leaves them as they are
pub devices-chained : (t : State) (fs : List Frame) → Devices fs → chained t fs ≡ fs
devices-chained t [] h = refl
devices-chained t (f ∷ fs) h =
    subst (λ g. chained t (g ∷ fs) ≡ g ∷ fs) (λ i. frame f.held (sym h.0 i)) refl

devices-after : (a : Act) (t : State) (fs : List Frame) → svc? a ≡ false → Devices fs → Devices (frames_after a t fs)
devices-after acts.Stopped t fs u h = h
devices-after acts.Pull t fs u h = devices-older fs h
devices-after (acts.Chain d) t fs u h = subst Devices (sym (devices-chained t fs h)) h
devices-after (acts.Accept d) t fs u h = (refl, h)
devices-after acts.Sleep t fs u h = h
devices-after (acts.Fault v) t fs u h = (refl, h)
devices-after acts.Halt t fs u h = h
devices-after acts.Skip t fs u h = h
devices-after (acts.Trap v) t fs u h = absurd (true≢false u)
devices-after acts.Plain t fs u h = h
devices-after (acts.Loads byte a d) t fs u h = h
devices-after (acts.Stores byte a v) t fs u h = h

pub frames-devices : (ev : List Event) (s : State) (n : ℕ) → ((k : ℕ) → k < n → svc? (act ev s k) ≡ false) → (k : ℕ) → k ≤ n
    → Devices (frames ev s k)
unfolding frames
frames-devices ev s n u zero h = tt
frames-devices ev s n u (suc k) h =
    devices-after (act ev s k) (after ev s (suc k)) (frames ev s k) (u k h) (frames-devices ev s n u k (omega arith))
