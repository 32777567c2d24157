-- What a row of a run says of the premises, and how facts of each number below n are written down. A row has the step's state, act and
-- frames as equations, so that a premise at that step is a test of known things. Assumes nothing.
use Prim.Native.Nat.{ℕ, zero, suc, ◌+◌, ◌<◌, ◌≤◌}
use mathlib.Core.Bool.{Bool, true, false, ◌&&◌, true≢false}
use mathlib.Core.List.{List, [], ◌∷◌}
use mathlib.Core.Logic.{◌≢◌}
use mathlib.Core.Path.{◌≡◌, sym, ap, subst, ◌∙◌}
use native.Mathlib.Omega.{arith}
use lib.Dec.{eqb, ltb, lit<}
use Rattle.word.specs.Psw.{asleep?}
use Rattle.machine.specs.State.{Core, State, wrap}
use Rattle.machine.specs.Memory.{Write, commit, even}
use Rattle.machine.specs.Events.{Event}
use Rattle.machine.specs.Devices.{device?}
use Rattle.machine.specs.Entry.{frame_byte}
use Rattle.machine.specs.declared.Act.{Act}
use Rattle.machine.specs.declared.Act.TheVariants as acts
use Rattle.machine_laws.specs.Bounds.{Each, Bytes}
use Rattle.machine_laws.proofs.Cases.{bool_cases, eq_of, neq-of, lt_of, and_left, and_right}
use Rattle.machine_laws.proofs.Memory.{over}
use Rattle.resume.specs.Frames.{Frame, own?, own_step?, svc?, Calm, reads_of, after, due, act, frames, application?, foreign?}
use Rattle.resume.specs.Resume.{Found}
use Rattle.resume.specs.Example.{zeros}
use Rattle.resume.proofs.Step.{each_map}
use Rattle.resume.proofs.Trace.{zero-at, byte-is, Row, act-is, application-is}

-- ---- a fact of each number below n, from a row of them

abbrev pub From : (ℕ → Type 0) → (k n : ℕ) → Type 0
From P k zero = Unit {0}
From P k (suc n) = P k × From P (suc k) n

infixr 5 ◌▸◌
abbrev pub ◌▸◌ : {A B : Type 0} → A → B → A × B
a ▸ b = (a, b)

from : (P : ℕ → Type 0) (n k : ℕ) → From P k n → (j : ℕ) → k ≤ j → j < k + n → P j
from P zero k u j h l = absurd (omega arith)
from P (suc n) k u j h l =
    bool_cases (eqb k j)
    (λ q. subst P (eq_of q) u.0) (λ q. let d : k ≢ j = neq-of q in from P n (suc k) u.1 j (omega arith) (omega arith))

pub below : (P : ℕ → Type 0) (n : ℕ) → From P 0 n → (k : ℕ) → k < n → P k
below P n u k h = from P n 0 u k (omega arith) (omega arith)

-- ---- bytes

pub zeros-bytes : Bytes zeros
unfolding zeros
zeros-bytes i = rw (zero-at 65536 i) (lit< tt)

pub bytes_of : (l : List ℕ) → Each (λ x. x < 256) l → Bytes l
bytes_of [] h i = lit< tt
bytes_of (x ∷ l) h zero = h.0
bytes_of (x ∷ l) h (suc i) = bytes_of l h.1 i

abbrev pub small? : List ℕ → Bool
small? [] = true
small? (x ∷ l) = ltb x 256 && small? l

abbrev pub values : List Write → List ℕ
values [] = []
values (w ∷ ws) = w.value ∷ values ws

pub small-writes : (ws : List Write) → small? (values ws) ≡ true → Each (λ w. w.value < 256) ws
small-writes [] e = tt
small-writes (w ∷ ws) e =
    (lt_of (and_left (ltb w.value 256) (small? (values ws)) e), small-writes ws (and_right (ltb w.value 256) (small? (values ws)) e))

pub small : (l : List ℕ) → small? l ≡ true → Each (λ x. x < 256) l
small [] e = tt
small (x ∷ l) e = (lt_of (and_left (ltb x 256) (small? l) e), small l (and_right (ltb x 256) (small? l) e))

-- the eight bytes of a frame in two memories
pub frame_found : (ws vs : List Write) (x : ℕ) → x < 65536 → From (λ i. over vs (wrap (even x + i)) 0 ≡ over ws (wrap (even x + i)) 0) 0 8
    → (i : ℕ) → i < 8 → frame_byte (commit vs zeros) x i ≡ frame_byte (commit ws zeros) x i
frame_found ws vs x h u i k =
    byte-is vs (wrap (even x + i)) (omega arith)
    ∙ below (λ i. over vs (wrap (even x + i)) 0 ≡ over ws (wrap (even x + i)) 0) 8 u i k
    ∙ sym (byte-is ws (wrap (even x + i)) (omega arith))

-- ---- what a row says of its step

abbrev pub pull? : Act → Bool
pull? acts.Stopped = false
pull? acts.Pull = true
pull? (acts.Chain d) = false
pull? (acts.Accept d) = false
pull? acts.Sleep = false
pull? (acts.Fault v) = false
pull? acts.Halt = false
pull? acts.Skip = false
pull? (acts.Trap v) = false
pull? acts.Plain = false
pull? (acts.Loads byte a d) = false
pull? (acts.Stores byte a v) = false

abbrev newest : Frame → List Frame → Frame
newest f [] = f
newest f (g ∷ fs) = g

module _ (ev : List Event) (s : State) where
  abbrev pub OwnTrap : ℕ → Type 0
  OwnTrap k = svc? (act ev s k) ≡ true → own? (frames ev s k) ≡ true

  abbrev pub Restored : ℕ → Type 0
  Restored k =
      (f : Frame) (fs : List Frame) → act ev s k ≡ acts.Pull → frames ev s k ≡ f ∷ fs → f.own ≡ false → Found f.held (due ev s k)

  abbrev pub Awake : ℕ → Type 0
  Awake k = application? ev s k ≡ true → asleep? (after ev s (suc k)).core.psw ≡ false

  abbrev pub ReadsOwn : ℕ → Type 0
  ReadsOwn k =
      application? ev s k ≡ true
      → Each (λ x. (device? x ≡ false) × (foreign? ev s k x ≡ false)) (reads_of (act ev s k) (due ev s k).core)

module _ {ev : List Event} {s : State} where
  module _ {k : ℕ} {t d : State} {c : Core} {a : Act} {fs : List Frame} {n : ℕ} {g : ℕ → Bool} (R : Row ev s k t d c a fs n g) where
    pub calm-at : Calm a fs → Calm (act ev s k) (frames ev s k)
    calm-at h = subst (λ x. Calm x (frames ev s k)) (sym (act-is ev s R)) (subst (Calm a) (sym R.frames-are) h)

    pub no_svc : svc? a ≡ false → svc? (act ev s k) ≡ false
    no_svc h = ap svc? (act-is ev s R) ∙ h

    pub own-trap : own? fs ≡ true → OwnTrap ev s k
    own-trap h e = ap own? R.frames-are ∙ h

    pub no-trap : svc? a ≡ false → OwnTrap ev s k
    no-trap h e = absurd (true≢false (sym e ∙ no_svc h))

    pub no-pull : pull? a ≡ false → Restored ev s k
    no-pull h f gs e o q = absurd (true≢false (sym (ap pull? (sym (act-is ev s R) ∙ e)) ∙ h))

    pub others-read : own_step? a fs ≡ false → ReadsOwn ev s k
    others-read h mine = absurd (true≢false (sym mine ∙ application-is ev s R ∙ h))

    pub reads_at : Each (λ x. (device? x ≡ false) × (g x ≡ false)) (reads_of a d.core) → ReadsOwn ev s k
    reads_at h mine =
        subst (Each (λ x. (device? x ≡ false) × (foreign? ev s k x ≡ false))) (sym (λ i. reads_of (act-is ev s R i) (R.due-is i).core))
        (each_map _ _ (λ x p. (p.0, R.foreign-is x ∙ p.1)) (reads_of a d.core) h)

  pub awake-before : {k : ℕ} {t d : State} {c : Core} {a : Act} {fs : List Frame} {n : ℕ} {g : ℕ → Bool} → Row ev s (suc k) t d c a fs n g
      → asleep? t.core.psw ≡ false → Awake ev s k
  awake-before R h mine = ap (λ x. asleep? x.core.psw) R.state_is ∙ h

  module _ {k : ℕ} {t d : State} {c : Core} {a : Act} {f : Frame} {fs : List Frame} {n : ℕ} {g : ℕ → Bool}
      (R : Row ev s k t d c a (f ∷ fs) n g) where
    -- a device's frame, found as it is held; the application's, of which nothing is asked
    pub found_at : Found f.held d → Restored ev s k
    found_at h f' fs' e o q =
        subst (λ x. Found x.held (due ev s k)) (ap (newest f) (sym R.frames-are ∙ o)) (subst (Found f.held) (sym R.due-is) h)

    pub own_at : f.own ≡ true → Restored ev s k
    own_at h f' fs' e o q = absurd (true≢false (sym h ∙ ap (λ x. (newest f x).own) (sym R.frames-are ∙ o) ∙ q))
