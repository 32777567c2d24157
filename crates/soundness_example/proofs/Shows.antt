-- What a step of a run shows, from its row. The row has state, act and frames as equations, so that each of the seven tests of the step is
-- computed, and what is found of a kind is told by the first step whose test is met. Assumes nothing.
use Prim.Native.Nat.{ℕ, suc, ◌+◌}
use native.Mathlib.Omega.{arith}
use mathlib.Core.Bool.{Bool, true, false, not, ◌||◌, false≢true}
use mathlib.Core.List.{List, [], ◌∷◌}
use mathlib.Core.Path.{◌≡◌, refl, ap, ◌∙◌}
use Rattle.machine.specs.State.{Core, State, sp, wrap}
use Rattle.machine.specs.Memory.{Write, commit, even}
use Rattle.machine.specs.Events.{Event}
use Rattle.machine.specs.declared.Act.{Act}
use Rattle.machine_laws.proofs.Memory.{over}
use Rattle.resume.specs.Frames.{Frame, none?, own?, after, frames}
use Rattle.resume.specs.Example.{zeros}
use Rattle.resume.proofs.Trace.{byte-is, known, Row, act-is}
use Rattle.soundness.specs.Findings.{
  Handler,
  Kept,
  registers_of,
  bytes_at,
  kept_at,
  kept_in,
  changes_of,
  changes,
  who_runs,
  Seen,
  handlers_after,
}
use Rattle.soundness.specs.Findings.{Kind, started, faulted, unopened, trapped, unclosed, changed, slept, device, foreign, breaks?}
use Rattle.soundness.specs.Findings.{Finding, start_finding, open_finding, oldest, handlers, seen, first_breach, found_of, kinds_found}

-- ---- what a pull compares, of memories that are writes over zeros

abbrev pub bytes_over : List Write → (p : ℕ) → List ℕ
bytes_over ws p =
    over ws (wrap (even p + 0)) 0 ∷ over ws (wrap (even p + 1)) 0 ∷ over ws (wrap (even p + 2)) 0 ∷ over ws (wrap (even p + 3)) 0
    ∷ over ws (wrap (even p + 4)) 0 ∷ over ws (wrap (even p + 5)) 0 ∷ over ws (wrap (even p + 6)) 0 ∷ over ws (wrap (even p + 7)) 0 ∷ []

bytes-over : (ws : List Write) (p : ℕ) → bytes_at (commit ws zeros) p ≡ bytes_over ws p
bytes-over ws p =
    let b : (i : ℕ) → _ = λ i. byte-is ws (wrap (even p + i)) (omega arith) in
    λ j. b 0 j ∷ b 1 j ∷ b 2 j ∷ b 3 j ∷ b 4 j ∷ b 5 j ∷ b 6 j ∷ b 7 j ∷ []

abbrev pub kept_over : Core → List Write → (p : ℕ) → Kept
kept_over c ws p = record { registers = registers_of c; stack = sp c; bytes = bytes_over ws p }

pub changes-over : (c : Core) (l m : ℕ) (ws : List Write) (c' : Core) (l' m' : ℕ) (vs : List Write)
    → changes_of (kept_in (known c l m ws)) (kept_at (sp c) (known c' l' m' vs))
    ≡ changes_of (kept_over c ws (sp c)) (kept_over c' vs (sp c))
changes-over c l m ws c' l' m' vs =
    λ i. changes_of (record { registers = registers_of c; stack = sp c; bytes = bytes-over ws (sp c) i })
    (record { registers = registers_of c'; stack = sp c'; bytes = bytes-over vs (sp c) i })

-- ---- a step that breaks nothing

abbrev pub quiet? : Seen → Bool
quiet? z =
    not (breaks? faulted z || breaks? unopened z || breaks? trapped z || breaks? changed z || breaks? slept z || breaks? device z
    || breaks? foreign z)

none_of : (a b c d e f g : Bool) → not (a || b || c || d || e || f || g) ≡ true
    → (a ≡ false) × (b ≡ false) × (c ≡ false) × (d ≡ false) × (e ≡ false) × (f ≡ false) × (g ≡ false)
none_of false false false false false false false q = (refl, refl, refl, refl, refl, refl, refl)
none_of true b c d e f g q = absurd (false≢true q)
none_of false true c d e f g q = absurd (false≢true q)
none_of false false true d e f g q = absurd (false≢true q)
none_of false false false true e f g q = absurd (false≢true q)
none_of false false false false true f g q = absurd (false≢true q)
none_of false false false false false true g q = absurd (false≢true q)
none_of false false false false false false true q = absurd (false≢true q)

pub quiet_of : (z : Seen) → quiet? z ≡ true → (κ : Kind) → breaks? κ z ≡ false
quiet_of z q κ =
    of-each κ
    (none_of (breaks? faulted z) (breaks? unopened z) (breaks? trapped z) (breaks? changed z) (breaks? slept z) (breaks? device z)
    (breaks? foreign z) q)
  where
    of-each : (κ : Kind)
        → (breaks? faulted z ≡ false) × (breaks? unopened z ≡ false) × (breaks? trapped z ≡ false) × (breaks? changed z ≡ false)
        × (breaks? slept z ≡ false) × (breaks? device z ≡ false) × (breaks? foreign z ≡ false)
        → breaks? κ z ≡ false
    of-each started n = refl
    of-each faulted n = n.0
    of-each unopened n = n.1
    of-each trapped n = n.2
    of-each unclosed n = refl
    of-each changed n = n.3
    of-each slept n = n.4
    of-each device n = n.5
    of-each foreign n = n.6

-- ---- a row

module _ {ev : List Event} {s : State} {k : ℕ} {t d : State} {c : Core} {a : Act} {fs : List Frame} {n : ℕ} {g : ℕ → Bool}
    (R : Row ev s k t d c a fs n g) where
  -- the step, as it is told: what it leaves, what a pull finds changed, and the handlers
  abbrev pub Shows : State → (x : ℕ) → List Handler → Seen
  Shows t' x hs =
      record { act = a; begins = d; leaves = t'; none_open = none? fs; own_open = own? fs; changes = x; runs = who_runs fs hs; foreign = g }

  pub shows : (t' : State) (x : ℕ) (hs : List Handler) → after ev s (suc k) ≡ t' → changes fs d ≡ x → handlers ev s k ≡ hs
      → seen ev s k ≡ Shows t' x hs
  shows t' x hs e h j =
      let ch = (λ i. changes (R.frames-are i) (R.due-is i)) ∙ h in
      λ i. record {
        act = act-is ev s R i;
        begins = R.due-is i;
        leaves = e i;
        none_open = none? (R.frames-are i);
        own_open = own? (R.frames-are i);
        changes = ch i;
        runs = who_runs (R.frames-are i) (j i);
        foreign = λ b. R.foreign-is b i;
      }

  -- the handlers after it
  pub next-handlers : (hs : List Handler) → handlers ev s k ≡ hs → handlers ev s (suc k) ≡ handlers_after a k fs hs
  unfolding handlers
  next-handlers hs j = λ i. handlers_after (act-is ev s R i) k (R.frames-are i) (j i)

  -- it breaks nothing
  pub quiet : {t' : State} → after ev s (suc k) ≡ t' → {x : ℕ} → changes fs d ≡ x → quiet? (Shows t' x (handlers ev s k)) ≡ true
      → (κ : Kind) → breaks? κ (seen ev s k) ≡ false
  quiet {t' = t'} e {x = x} h q κ =
      ap (breaks? κ) (shows t' x (handlers ev s k) e h refl) ∙ quiet_of (Shows t' x (handlers ev s k)) q κ

-- ---- a run

module _ (ev : List Event) (s : State) (n : ℕ) where
  -- what is found of each kind, from the start, the frames and handlers at the close, and the steps' breaches
  abbrev pub Told : (x : Finding) → List Frame → List Handler → (Kind → Finding) → Kind → Finding
  Told x fs hs f started = x
  Told x fs hs f faulted = f faulted
  Told x fs hs f unopened = f unopened
  Told x fs hs f trapped = f trapped
  Told x fs hs f unclosed = open_finding (none? fs) (oldest hs)
  Told x fs hs f changed = f changed
  Told x fs hs f slept = f slept
  Told x fs hs f device = f device
  Told x fs hs f foreign = f foreign

  module _ {x : Finding} {fs : List Frame} {hs : List Handler} {f : Kind → Finding} (ex : start_finding s ≡ x) (ef : frames ev s n ≡ fs)
      (eh : handlers ev s n ≡ hs) (eb : (κ : Kind) → first_breach ev s κ n ≡ f κ) where
    pub told_is : (κ : Kind) → found_of ev s κ n ≡ Told x fs hs f κ
    told_is started = ex
    told_is faulted = eb faulted
    told_is unopened = eb unopened
    told_is trapped = eb trapped
    told_is unclosed = λ i. open_finding (none? (ef i)) (oldest (eh i))
    told_is changed = eb changed
    told_is slept = eb slept
    told_is device = eb device
    told_is foreign = eb foreign

    pub kinds-are : kinds_found (λ κ. found_of ev s κ n) ≡ kinds_found (Told x fs hs f)
    kinds-are = λ i. kinds_found (λ κ. told_is κ i)
