-- What is carried of the open frames is what they are. Assumes nothing.
use Prim.Native.Nat.{ℕ, zero, suc, ◌+◌}
use native.Mathlib.Omega.{arith}
use mathlib.Core.Bool.{Bool, true, false, cond, ◌&&◌, false≢true}
use mathlib.Core.List.{List, [], ◌∷◌}
use mathlib.Core.Path.{◌≡◌, refl, sym, ap, ◌∙◌}
use lib.Dec.{eqb}
use lib.ListN.{length}
use Rattle.machine.specs.State.{State, sp}
use Rattle.machine.specs.Events.{Event}
use Rattle.machine.specs.declared.Act.{Act}
use Rattle.machine.specs.declared.Act.TheVariants as acts
use Rattle.machine_laws.proofs.Cases.{bool_cases, not-eq}
use Rattle.resume.specs.Frames.{Frame, frame, none?, own?, frames_after, after, act, frames}
use Rattle.soundness.specs.Findings.{Handler, handler, application_runs, kept_at, kept_in, changes_of, changes, who_runs, oldest}
use Rattle.soundness.specs.Findings.{handlers_after, handlers}
use Rattle.soundness.specs.Watch.{Held, held, no_device?, held_changes, held_runs, newest_gone, own_trap, owns_after, held_pulled}
use Rattle.soundness.specs.Watch.{held_chained, held_trapped, devices_after, oldest_after, Layered}

-- a handler for each frame, and the application's frames below the devices'
abbrev pub Paired : List Frame → List Handler → Type 0
Paired [] [] = Unit {0}
Paired [] (h ∷ hs) = ⊥
Paired (f ∷ fs) [] = ⊥
Paired (f ∷ fs) (h ∷ hs) = (f.own ≡ true → own? fs ≡ true) × Paired fs hs

pub paired-layered : (fs : List Frame) (hs : List Handler) → Paired fs hs → Layered fs
paired-layered [] [] p = tt
paired-layered [] (h ∷ hs) p = absurd p
paired-layered (f ∷ fs) [] p = absurd p
paired-layered (f ∷ fs) (h ∷ hs) p = (p.0, paired-layered fs hs p.1)

pub paired-after : (a : Act) (k : ℕ) (t : State) (fs : List Frame) (hs : List Handler) → Paired fs hs
    → Paired (frames_after a t fs) (handlers_after a k fs hs)
paired-after acts.Stopped k t fs hs p = p
paired-after acts.Pull k t [] [] p = p
paired-after acts.Pull k t [] (h ∷ hs) p = absurd p
paired-after acts.Pull k t (f ∷ fs) [] p = absurd p
paired-after acts.Pull k t (f ∷ fs) (h ∷ hs) p = p.1
paired-after (acts.Chain d) k t [] [] p = p
paired-after (acts.Chain d) k t [] (h ∷ hs) p = absurd p
paired-after (acts.Chain d) k t (f ∷ fs) [] p = absurd p
paired-after (acts.Chain d) k t (f ∷ fs) (h ∷ hs) p = (
  bool_cases f.own
      (λ q e. absurd (false≢true (sym (ap (λ b. (cond b (frame t false) f).own) q) ∙ e)))
      (λ q e. p.0 (sym (ap (λ b. (cond b (frame t false) f).own) q) ∙ e)),
  p.1,
)
paired-after (acts.Accept d) k t fs hs p = ((λ e. absurd (false≢true e)), p)
paired-after acts.Sleep k t fs hs p = p
paired-after (acts.Fault v) k t fs hs p = ((λ e. absurd (false≢true e)), p)
paired-after acts.Halt k t fs hs p = p
paired-after acts.Skip k t fs hs p = p
paired-after (acts.Trap v) k t fs hs p = ((λ e. e), p)
paired-after acts.Plain k t fs hs p = p
paired-after (acts.Loads byte a d) k t fs hs p = p
paired-after (acts.Stores byte a v) k t fs hs p = p

pub paired : (ev : List Event) (s : State) (k : ℕ) → Paired (frames ev s k) (handlers ev s k)
unfolding frames handlers
paired ev s zero = tt
paired ev s (suc k) = paired-after (act ev s k) k (after ev s (suc k)) (frames ev s k) (handlers ev s k) (paired ev s k)

-- ---- the summary of the frames

-- how many are the application's, and what is held of the devices'
abbrev pub owns_of : List Frame → ℕ
owns_of [] = 0
owns_of (f ∷ fs) = cond f.own (suc (owns_of fs)) (owns_of fs)

abbrev pub held_of : List Frame → List Handler → List Held
held_of [] hs = []
held_of (f ∷ fs) [] = []
held_of (f ∷ fs) (h ∷ hs) = cond f.own [] (held (kept_in f.held) h ∷ held_of fs hs)

-- the tests of the newest frame's owner stand beside it as b, so that each law is by the two values of b

pub no-device : (fs : List Frame) (hs : List Handler) → Paired fs hs → no_device? (held_of fs hs) ≡ own? fs
no-device [] [] p = refl
no-device [] (h ∷ hs) p = absurd p
no-device (f ∷ fs) [] p = absurd p
no-device (f ∷ fs) (h ∷ hs) p = by-owner f.own p.0
  where
    by-owner : (b : Bool) → (b ≡ true → own? fs ≡ true)
        → no_device? (cond b [] (held (kept_in f.held) h ∷ held_of fs hs)) ≡ (b && own? fs)
    by-owner true below = sym (below refl)
    by-owner false below = refl

-- above the application's frames alone nothing is held
held_none : (fs : List Frame) (hs : List Handler) → own? fs ≡ true → held_of fs hs ≡ []
held_none [] hs e = refl
held_none (f ∷ fs) [] e = refl
held_none (f ∷ fs) (h ∷ hs) e = by-owner f.own e
  where
    by-owner : (b : Bool) → b && own? fs ≡ true → cond b [] (held (kept_in f.held) h ∷ held_of fs hs) ≡ []
    by-owner true o = refl
    by-owner false o = absurd (false≢true o)

owns-all : (fs : List Frame) → own? fs ≡ true → owns_of fs ≡ length fs
owns-all [] e = refl
owns-all (f ∷ fs) e = by-owner f.own e (owns-all fs)
  where
    by-owner : (b : Bool) → b && own? fs ≡ true → (own? fs ≡ true → owns_of fs ≡ length fs)
        → cond b (suc (owns_of fs)) (owns_of fs) ≡ suc (length fs)
    by-owner true o all = ap suc (all o)
    by-owner false o all = absurd (false≢true o)

pub open_is : (fs : List Frame) (hs : List Handler) → Paired fs hs → owns_of fs + length (held_of fs hs) ≡ length fs
open_is [] [] p = refl
open_is [] (h ∷ hs) p = absurd p
open_is (f ∷ fs) [] p = absurd p
open_is (f ∷ fs) (h ∷ hs) p = by-owner f.own p.0 (open_is fs hs p.1)
  where
    by-owner : (b : Bool) → (b ≡ true → own? fs ≡ true) → owns_of fs + length (held_of fs hs) ≡ length fs
        → cond b (suc (owns_of fs)) (owns_of fs) + length (cond b [] (held (kept_in f.held) h ∷ held_of fs hs)) ≡ suc (length fs)
    by-owner true below rest = let e = owns-all fs (below refl) in omega (arith, e)
    by-owner false below rest = omega (arith, rest)

pub none_is : (fs : List Frame) → eqb (length fs) 0 ≡ none? fs
none_is [] = refl
none_is (f ∷ fs) = not-eq {m = suc (length fs)} {n = 0} (λ e. absurd (omega (arith, e)))

pub changes-is : (t : State) (fs : List Frame) (hs : List Handler) → Paired fs hs → held_changes (held_of fs hs) t ≡ changes fs t
changes-is t [] [] p = refl
changes-is t [] (h ∷ hs) p = absurd p
changes-is t (f ∷ fs) [] p = absurd p
changes-is t (f ∷ fs) (h ∷ hs) p = by-owner f.own
  where
    by-owner : (b : Bool) → held_changes (cond b [] (held (kept_in f.held) h ∷ held_of fs hs)) t
        ≡ cond b 0 (changes_of (kept_in f.held) (kept_at (sp f.held.core) t))
    by-owner true = refl
    by-owner false = refl

pub runs-is : (fs : List Frame) (hs : List Handler) → Paired fs hs → held_runs (held_of fs hs) ≡ who_runs fs hs
runs-is [] [] p = refl
runs-is [] (h ∷ hs) p = absurd p
runs-is (f ∷ fs) [] p = absurd p
runs-is (f ∷ fs) (h ∷ hs) p = by-owner f.own
  where
    by-owner : (b : Bool) → held_runs (cond b [] (held (kept_in f.held) h ∷ held_of fs hs)) ≡ cond b application_runs h
    by-owner true = refl
    by-owner false = refl

-- ---- one step

trap-owns : (o : ℕ) (xs : List Held) → own_trap o xs ≡ cond (no_device? xs) (suc o) o
trap-owns o [] = refl
trap-owns o (x ∷ xs) = refl

trap-held : (k v : ℕ) (t : State) (xs : List Held) → held_trapped k v t xs ≡ cond (no_device? xs) [] (held (kept_in t) (handler k v v) ∷ xs)
trap-held k v t [] = refl
trap-held k v t (x ∷ xs) = refl

pull-owns : (o : ℕ) (x : Held) (xs : List Held) (b : Bool) → newest_gone (cond b (suc o) o) (cond b [] (x ∷ xs)) ≡ o
pull-owns o x xs true = omega arith
pull-owns o x xs false = refl

chain-owns : (t : State) (f : Frame) (o : ℕ) (x : Held) (xs : List Held) (b : Bool) → f.own ≡ b
    → newest_gone (cond b (suc o) o) (cond b [] (x ∷ xs)) ≡ cond (cond b (frame t false) f).own (suc o) o
chain-owns t f o x xs true q = omega arith
chain-owns t f o x xs false q = sym (ap (λ c. cond c (suc o) o) q)

pub owns-after : (a : Act) (t : State) (fs : List Frame) (hs : List Handler) → Paired fs hs
    → owns_after a (owns_of fs) (held_of fs hs) ≡ owns_of (frames_after a t fs)
owns-after acts.Stopped t fs hs p = refl
owns-after acts.Pull t [] [] p = omega arith
owns-after acts.Pull t [] (h ∷ hs) p = absurd p
owns-after acts.Pull t (f ∷ fs) [] p = absurd p
owns-after acts.Pull t (f ∷ fs) (h ∷ hs) p = pull-owns (owns_of fs) (held (kept_in f.held) h) (held_of fs hs) f.own
owns-after (acts.Chain d) t [] [] p = omega arith
owns-after (acts.Chain d) t [] (h ∷ hs) p = absurd p
owns-after (acts.Chain d) t (f ∷ fs) [] p = absurd p
owns-after (acts.Chain d) t (f ∷ fs) (h ∷ hs) p =
    chain-owns t f (owns_of fs) (held (kept_in f.held) h) (held_of fs hs) f.own refl
owns-after (acts.Accept d) t fs hs p = refl
owns-after acts.Sleep t fs hs p = refl
owns-after (acts.Fault v) t fs hs p = refl
owns-after acts.Halt t fs hs p = refl
owns-after acts.Skip t fs hs p = refl
owns-after (acts.Trap v) t fs hs p =
    trap-owns (owns_of fs) (held_of fs hs) ∙ ap (λ b. cond b (suc (owns_of fs)) (owns_of fs)) (no-device fs hs p)
owns-after acts.Plain t fs hs p = refl
owns-after (acts.Loads byte a d) t fs hs p = refl
owns-after (acts.Stores byte a v) t fs hs p = refl

pull-held : (x : Held) (fs : List Frame) (hs : List Handler) (b : Bool) → (b ≡ true → own? fs ≡ true)
    → held_pulled (cond b [] (x ∷ held_of fs hs)) ≡ held_of fs hs
pull-held x fs hs true below = sym (held_none fs hs (below refl))
pull-held x fs hs false below = refl

chain_held : (k d : ℕ) (t : State) (f : Frame) (h : Handler) (fs : List Frame) (hs : List Handler) (b : Bool) → f.own ≡ b
    → (b ≡ true → own? fs ≡ true)
    → held_chained k d t (cond b (suc (owns_of fs)) (owns_of fs)) (cond b [] (held (kept_in f.held) h ∷ held_of fs hs))
    ≡ cond (cond b (frame t false) f).own []
    (held (kept_in (cond b (frame t false) f).held) (cond b (handler k d d) (handler h.opened h.vector d)) ∷ held_of fs hs)
chain_held k d t f h fs hs true q below =
    ap (λ c. cond c [] (held (kept_in t) (handler k d d) ∷ []))
    (not-eq {m = suc (owns_of fs)} {n = 0} (λ e. absurd (omega (arith, e))))
    ∙ ap (λ xs. held (kept_in t) (handler k d d) ∷ xs) (sym (held_none fs hs (below refl)))
chain_held k d t f h fs hs false q below =
    sym (ap (λ c. cond c [] (held (kept_in f.held) (handler h.opened h.vector d) ∷ held_of fs hs)) q)

pub devices-after : (a : Act) (k : ℕ) (t : State) (fs : List Frame) (hs : List Handler) → Paired fs hs
    → devices_after a k t (owns_of fs) (held_of fs hs) ≡ held_of (frames_after a t fs) (handlers_after a k fs hs)
devices-after acts.Stopped k t fs hs p = refl
devices-after acts.Pull k t [] [] p = refl
devices-after acts.Pull k t [] (h ∷ hs) p = absurd p
devices-after acts.Pull k t (f ∷ fs) [] p = absurd p
devices-after acts.Pull k t (f ∷ fs) (h ∷ hs) p = pull-held (held (kept_in f.held) h) fs hs f.own p.0
devices-after (acts.Chain d) k t [] [] p = refl
devices-after (acts.Chain d) k t [] (h ∷ hs) p = absurd p
devices-after (acts.Chain d) k t (f ∷ fs) [] p = absurd p
devices-after (acts.Chain d) k t (f ∷ fs) (h ∷ hs) p = chain_held k d t f h fs hs f.own refl p.0
devices-after (acts.Accept d) k t fs hs p = refl
devices-after acts.Sleep k t fs hs p = refl
devices-after (acts.Fault v) k t fs hs p = refl
devices-after acts.Halt k t fs hs p = refl
devices-after acts.Skip k t fs hs p = refl
devices-after (acts.Trap v) k t fs hs p =
    trap-held k v t (held_of fs hs) ∙ ap (λ b. cond b [] (held (kept_in t) (handler k v v) ∷ held_of fs hs)) (no-device fs hs p)
devices-after acts.Plain k t fs hs p = refl
devices-after (acts.Loads byte a d) k t fs hs p = refl
devices-after (acts.Stores byte a v) k t fs hs p = refl

-- the first of one or more handlers takes the place of the oldest only where it is alone
enter-oldest : (x : Handler) (fs : List Frame) (hs : List Handler) → Paired fs hs
    → cond (eqb (length fs) 0) x (oldest hs) ≡ oldest (x ∷ hs)
enter-oldest x [] [] p = refl
enter-oldest x [] (h ∷ hs) p = absurd p
enter-oldest x (f ∷ fs) [] p = absurd p
enter-oldest x (f ∷ fs) (h ∷ hs) p = ap (λ c. cond c x (oldest (h ∷ hs))) (none_is (f ∷ fs))

one-open : (f g : Frame) (fs : List Frame) → eqb (length (f ∷ (g ∷ fs))) 1 ≡ false
one-open f g fs = not-eq {m = suc (suc (length fs))} {n = 1} (λ e. absurd (omega (arith, e)))

own_alone : (b : Bool) → (b && true) ≡ b
own_alone true = refl
own_alone false = refl

pub oldest-after : (a : Act) (k : ℕ) (fs : List Frame) (hs : List Handler) → Paired fs hs
    → oldest_after a k (length fs) (own? fs) (oldest hs) ≡ oldest (handlers_after a k fs hs)
oldest-after acts.Stopped k fs hs p = refl
oldest-after acts.Pull k [] [] p = refl
oldest-after acts.Pull k [] (h ∷ hs) p = absurd p
oldest-after acts.Pull k (f ∷ fs) [] p = absurd p
oldest-after acts.Pull k (f ∷ []) (h ∷ []) p = refl
oldest-after acts.Pull k (f ∷ []) (h ∷ (h' ∷ hs)) p = absurd p.1
oldest-after acts.Pull k (f ∷ (g ∷ fs)) (h ∷ []) p = absurd p.1
oldest-after acts.Pull k (f ∷ (g ∷ fs)) (h ∷ (h' ∷ hs)) p =
    ap (λ c. cond c application_runs (oldest (h' ∷ hs))) (one-open f g fs)
oldest-after (acts.Chain d) k [] [] p = refl
oldest-after (acts.Chain d) k [] (h ∷ hs) p = absurd p
oldest-after (acts.Chain d) k (f ∷ fs) [] p = absurd p
oldest-after (acts.Chain d) k (f ∷ []) (h ∷ []) p =
    ap (λ c. cond c (handler k d d) (handler h.opened h.vector d)) (own_alone f.own)
oldest-after (acts.Chain d) k (f ∷ []) (h ∷ (h' ∷ hs)) p = absurd p.1
oldest-after (acts.Chain d) k (f ∷ (g ∷ fs)) (h ∷ []) p = absurd p.1
oldest-after (acts.Chain d) k (f ∷ (g ∷ fs)) (h ∷ (h' ∷ hs)) p =
    let o = oldest (h' ∷ hs) in
    ap (λ c. cond c (cond (own? (f ∷ (g ∷ fs))) (handler k d d) (handler o.opened o.vector d)) o) (one-open f g fs)
oldest-after (acts.Accept d) k fs hs p = enter-oldest (handler k d d) fs hs p
oldest-after acts.Sleep k fs hs p = refl
oldest-after (acts.Fault v) k fs hs p = enter-oldest (handler k v v) fs hs p
oldest-after acts.Halt k fs hs p = refl
oldest-after acts.Skip k fs hs p = refl
oldest-after (acts.Trap v) k fs hs p = enter-oldest (handler k v v) fs hs p
oldest-after acts.Plain k fs hs p = refl
oldest-after (acts.Loads byte a d) k fs hs p = refl
oldest-after (acts.Stores byte a v) k fs hs p = refl
