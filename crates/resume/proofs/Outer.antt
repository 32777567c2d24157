-- Frames of the application and of devices: what a step does to them, and the outermost device frame, which holds the
-- application's core. Assumes nothing.
use mathlib.Core.Bool.{Bool, true, false, ◌&&◌, true≢false, false≢true}
use mathlib.Core.List.{List, [], ◌∷◌}
use mathlib.Core.Path.{◌≡◌, refl, sym, ap, subst, ◌∙◌}
use Rattle.machine.specs.State.{Core, State}
use Rattle.machine.specs.Entry.{pulled}
use Rattle.machine.specs.declared.Act.{Act}
use Rattle.machine.specs.declared.Act.TheVariants as acts
use Rattle.machine_laws.specs.Bounds.{TidyCore}
use Rattle.machine_laws.proofs.Cases.{bool_cases, and_right}
use Rattle.resume.specs.Frames.{Frame, frame, own?, none?, older, chained, frames_after, accepts_none?, Calm, NoChain}
use Rattle.resume.proofs.Steady.{Steady}

-- ---- what a step does to frames

-- an instruction accepts no line and chains none
pub steady-accepts-none : (a : Act) → Steady a → accepts_none? a ≡ true
steady-accepts-none acts.Stopped s = absurd s
steady-accepts-none acts.Pull s = absurd s
steady-accepts-none (acts.Chain d) s = absurd s
steady-accepts-none (acts.Accept d) s = absurd s
steady-accepts-none acts.Sleep s = refl
steady-accepts-none (acts.Fault v) s = absurd s
steady-accepts-none acts.Halt s = absurd s
steady-accepts-none acts.Skip s = refl
steady-accepts-none (acts.Trap v) s = refl
steady-accepts-none acts.Plain s = refl
steady-accepts-none (acts.Loads byte a d) s = refl
steady-accepts-none (acts.Stores byte a v) s = refl

pub steady-no-chain : (a : Act) → Steady a → NoChain a
steady-no-chain a s d e = subst Steady e s

-- a step of the application that chains none leaves each open frame the application's
pub older-own : (fs : List Frame) → own? fs ≡ true → own? (older fs) ≡ true
older-own [] o = o
older-own (f ∷ fs) o = and_right f.own (own? fs) o

pub frames-own : (a : Act) (t : State) (fs : List Frame) → accepts_none? a ≡ true → NoChain a → Calm a fs → own? fs ≡ true
    → own? (frames_after a t fs) ≡ true
frames-own acts.Stopped t fs h c k o = o
frames-own acts.Pull t fs h c k o = older-own fs o
frames-own (acts.Chain d) t fs h c k o = absurd (c d refl)
frames-own (acts.Accept d) t fs h c k o = absurd (false≢true h)
frames-own acts.Sleep t fs h c k o = o
frames-own (acts.Fault v) t fs h c k o = absurd k
frames-own acts.Halt t fs h c k o = o
frames-own acts.Skip t fs h c k o = o
frames-own (acts.Trap v) t fs h c k o = ap (λ b. b && b) o
frames-own acts.Plain t fs h c k o = o
frames-own (acts.Loads byte a d) t fs h c k o = o
frames-own (acts.Stores byte a v) t fs h c k o = o

-- of a device frame with none below it: it is a device's
pub newest-device : (f : Frame) (fs : List Frame) → f.own && own? fs ≡ false → own? fs ≡ true → f.own ≡ false
newest-device f fs o q = bool_cases f.own (λ p. absurd (true≢false (rw (p, q) at o))) (λ p. p)

-- a chaining leaves a device frame open; with one open, only a pull leaves none
pub chained-device : (t : State) (fs : List Frame) → none? fs ≡ false → own? (chained t fs) ≡ false
chained-device t [] h = absurd (true≢false h)
chained-device t (f ∷ fs) h =
    bool_cases f.own
    (λ q. subst (λ g. own? (chained t (g ∷ fs)) ≡ false) (λ i. frame f.held (sym q i)) refl)
    (λ q. subst (λ g. own? (chained t (g ∷ fs)) ≡ false) (λ i. frame f.held (sym q i)) refl)

device-some : (fs : List Frame) → own? fs ≡ false → none? fs ≡ false
device-some [] h = h
device-some (f ∷ fs) h = refl

pub leaves_none : (a : Act) (t : State) (fs : List Frame) → own? fs ≡ false → own? (frames_after a t fs) ≡ true → a ≡ acts.Pull
leaves_none acts.Stopped t fs o h = absurd (true≢false (sym h ∙ o))
leaves_none acts.Pull t fs o h = refl
leaves_none (acts.Chain d) t fs o h = absurd (true≢false (sym h ∙ chained-device t fs (device-some fs o)))
leaves_none (acts.Accept d) t fs o h = absurd (false≢true h)
leaves_none acts.Sleep t fs o h = absurd (true≢false (sym h ∙ o))
leaves_none (acts.Fault v) t fs o h = absurd (false≢true h)
leaves_none acts.Halt t fs o h = absurd (true≢false (sym h ∙ o))
leaves_none acts.Skip t fs o h = absurd (true≢false (sym h ∙ o))
leaves_none (acts.Trap v) t fs o h = absurd (true≢false (sym h ∙ ap (λ b. b && b) o))
leaves_none acts.Plain t fs o h = absurd (true≢false (sym h ∙ o))
leaves_none (acts.Loads byte a d) t fs o h = absurd (true≢false (sym h ∙ o))
leaves_none (acts.Stores byte a v) t fs o h = absurd (true≢false (sym h ∙ o))

-- ---- the outermost device frame

-- A pull from the state s gives the core c.
pub record Holds (s : State) (c : Core) : Type 0 where
  pub tidy : TidyCore s.core
  pub back : pulled s.core s.mem ≡ c

-- Where the application's core c is while a device frame is open: the outermost of them holds it.
abbrev pub If : Bool → Type 0 → Type 0 → Type 0
If true A B = A
If false A B = B

abbrev pub Outer : Core → List Frame → Type 0
Outer c [] = ⊥
Outer c (f ∷ fs) = If (own? fs) (Holds f.held c) (Outer c fs)

module _ (c : Core) (f : Frame) (fs : List Frame) where
  pub outer-in : own? fs ≡ true → Holds f.held c → Outer c (f ∷ fs)
  outer-in o h = rw o h

  pub outer-out : own? fs ≡ true → Outer c (f ∷ fs) → Holds f.held c
  outer-out o h = rw o at h

  pub outer-over : own? fs ≡ false → Outer c fs → Outer c (f ∷ fs)
  outer-over o h = rw o h

  pub outer-under : own? fs ≡ false → Outer c (f ∷ fs) → Outer c fs
  outer-under o h = rw o at h
