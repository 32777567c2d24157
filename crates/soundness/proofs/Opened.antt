-- The step and the vector that are told of a frame are those that opened it. Assumes nothing.
use Prim.Native.Nat.{ℕ, zero, suc, ◌<◌}
use native.Mathlib.Omega.{arith}
use mathlib.Core.Bool.{Bool, true, false, cond, false≢true}
use mathlib.Core.List.{List, [], ◌∷◌}
use mathlib.Core.Path.{◌≡◌, refl, ap}
use Rattle.machine.specs.State.{State}
use Rattle.machine.specs.Events.{Event}
use Rattle.machine.specs.declared.Act.{Act}
use Rattle.machine.specs.declared.Act.TheVariants as acts
use Rattle.machine_laws.specs.Bounds.{Each}
use Rattle.resume.specs.Frames.{Frame, frame, none?, own?, frames_after, after, act, frames}
use Rattle.soundness.specs.Findings.{Handler, handler, vector_of, handlers_after, handlers, oldest, open_finding}
use Rattle.soundness.specs.Soundness.{OpenedBy, Opened, FramesOpened, OpenWithin}

module _ (ev : List Event) (s : State) where
  opened-later : (k : ℕ) (f : Frame) (h : Handler) → OpenedBy ev s k f h → OpenedBy ev s (suc k) f h
  opened-later k f h o = let w = o.within in record { within = omega (arith, w); holds = o.holds; enters = o.enters }

  all-later : (k : ℕ) (fs : List Frame) (hs : List Handler) → Opened ev s k fs hs → Opened ev s (suc k) fs hs
  all-later k [] [] o = tt
  all-later k [] (h ∷ hs) o = absurd o
  all-later k (f ∷ fs) [] o = absurd o
  all-later k (f ∷ fs) (h ∷ hs) o = (opened-later k f h o.0, o.1, all-later k fs hs o.2)

  all-before : (k : ℕ) (fs : List Frame) (hs : List Handler) → Opened ev s k fs hs → Each (λ g. g.opened < k) hs
  all-before k [] [] o = tt
  all-before k [] (h ∷ hs) o = absurd o
  all-before k (f ∷ fs) [] o = absurd o
  all-before k (f ∷ fs) (h ∷ hs) o = (o.0.within, all-before k fs hs o.2)

  module _ (k : ℕ) where
    abbrev t : State
    t = after ev s (suc k)

    opened-now : (v : ℕ) (own : Bool) → vector_of (act ev s k) ≡ v → OpenedBy ev s (suc k) (frame t own) (handler k v v)
    opened-now v own e = record { within = omega arith; holds = refl; enters = e }

    -- one more frame
    opened-more : (v : ℕ) (own : Bool) (fs : List Frame) (hs : List Handler) → vector_of (act ev s k) ≡ v → Opened ev s k fs hs
        → Opened ev s (suc k) (frame t own ∷ fs) (handler k v v ∷ hs)
    opened-more v own fs hs e o = (opened-now v own e, all-before k fs hs o, all-later k fs hs o)

    chained-now : (d : ℕ) (f : Frame) (h : Handler) (b : Bool) → vector_of (act ev s k) ≡ d → OpenedBy ev s k f h
        → OpenedBy ev s (suc k) (cond b (frame t false) f) (cond b (handler k d d) (handler h.opened h.vector d))
    chained-now d f h true e o = opened-now d false e
    chained-now d f h false e o =
        let w = o.within in record { within = omega (arith, w); holds = o.holds; enters = o.enters }

    chained-before : (d : ℕ) (h : Handler) (hs : List Handler) (b : Bool) → Each (λ g. g.opened < h.opened) hs
        → Each (λ g. g.opened < k) hs
        → Each (λ g. g.opened < (cond b (handler k d d) (handler h.opened h.vector d)).opened) hs
    chained-before d h hs true x y = y
    chained-before d h hs false x y = x

    opened_after : (a : Act) (fs : List Frame) (hs : List Handler) → act ev s k ≡ a → Opened ev s k fs hs
        → Opened ev s (suc k) (frames_after a t fs) (handlers_after a k fs hs)
    opened_after acts.Stopped fs hs e o = all-later k fs hs o
    opened_after acts.Pull [] [] e o = tt
    opened_after acts.Pull [] (h ∷ hs) e o = absurd o
    opened_after acts.Pull (f ∷ fs) [] e o = absurd o
    opened_after acts.Pull (f ∷ fs) (h ∷ hs) e o = all-later k fs hs o.2
    opened_after (acts.Chain d) [] [] e o = tt
    opened_after (acts.Chain d) [] (h ∷ hs) e o = absurd o
    opened_after (acts.Chain d) (f ∷ fs) [] e o = absurd o
    opened_after (acts.Chain d) (f ∷ fs) (h ∷ hs) e o = (
      chained-now d f h f.own (ap vector_of e) o.0,
      chained-before d h hs f.own o.1 (all-before k fs hs o.2),
      all-later k fs hs o.2,
    )
    opened_after (acts.Accept d) fs hs e o = opened-more d false fs hs (ap vector_of e) o
    opened_after acts.Sleep fs hs e o = all-later k fs hs o
    opened_after (acts.Fault v) fs hs e o = opened-more v false fs hs (ap vector_of e) o
    opened_after acts.Halt fs hs e o = all-later k fs hs o
    opened_after acts.Skip fs hs e o = all-later k fs hs o
    opened_after (acts.Trap v) fs hs e o = opened-more v (own? fs) fs hs (ap vector_of e) o
    opened_after acts.Plain fs hs e o = all-later k fs hs o
    opened_after (acts.Loads byte a d) fs hs e o = all-later k fs hs o
    opened_after (acts.Stores byte a v) fs hs e o = all-later k fs hs o

  opened : (k : ℕ) → Opened ev s k (frames ev s k) (handlers ev s k)
  unfolding frames handlers
  opened zero = tt
  opened (suc k) = opened_after k (act ev s k) (frames ev s k) (handlers ev s k) refl (opened k)

  oldest-within : (k : ℕ) (fs : List Frame) (hs : List Handler) → Opened ev s k fs hs
      → (open_finding (none? fs) (oldest hs)).found ≡ true → (open_finding (none? fs) (oldest hs)).step < k
  oldest-within k [] [] o e = absurd (false≢true e)
  oldest-within k [] (h ∷ hs) o e = absurd o
  oldest-within k (f ∷ fs) [] o e = absurd o
  oldest-within k (f ∷ []) (h ∷ []) o e = o.0.within
  oldest-within k (f ∷ []) (h ∷ (g ∷ hs)) o e = absurd o.2
  oldest-within k (f ∷ (f' ∷ fs)) (h ∷ []) o e = absurd o.2
  oldest-within k (f ∷ (f' ∷ fs)) (h ∷ (g ∷ hs)) o e = oldest-within k (f' ∷ fs) (g ∷ hs) o.2 refl

pub frames-opened : FramesOpened
frames-opened = opened

pub open-within : OpenWithin
open-within ev s n e = oldest-within ev s n (frames ev s n) (handlers ev s n) (opened ev s n) e
