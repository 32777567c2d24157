-- What a row says of its step, and what the bytes say of the vectors: the premises of a run, from its rows.
-- Assumes nothing.
use Prim.Native.Nat.{ℕ, zero, suc, ◌+◌, ◌%◌, ◌<◌}
use mathlib.Core.Bool.{Bool, true, false, ◌&&◌, true≢false}
use mathlib.Core.List.{List, [], ◌∷◌}
use mathlib.Core.Logic.{◌≢◌, inl, inr}
use mathlib.Core.Path.{◌≡◌, sym, ap, subst, ◌∙◌}
use native.Mathlib.Omega.{arith}
use lib.Dec.{eqb}
use Rattle.isa.specs.Decode.{decode_of}
use Rattle.machine.specs.State.{Core, State, sp, pc}
use Rattle.machine.specs.Memory.{Write, commit, byte_at, word_at}
use Rattle.machine.specs.Events.{Event}
use Rattle.machine.specs.declared.Act.{Act}
use Rattle.machine.specs.declared.Act.TheVariants as acts
use Rattle.machine_laws.proofs.Cases.{bool_cases, eq_of, neq-of, and_left, and_right}
use Rattle.machine_laws.proofs.Memory.{over}
use Rattle.resume.specs.Frames.{Frame, FrameFound, Calm, svc?, none?, after, due, act, frames}
use Rattle.resume.specs.Depth.{executes?, set_pri?, sets_priority?}
use Rattle.resume.specs.Example.{zeros}
use Rattle.resume.proofs.Trace.{known, byte-is}
use Rattle.resume.proofs.RowFacts.{pull?}
use Rattle.stack_need.specs.Need.{given?}
use Rattle.stack_need.specs.Stack.{Handler, Enters, return?, works?, handlers}
use Rattle.stack_example.specs.Example.{vectors}
use Rattle.stack_example.proofs.Trace.{Row, act-is}

-- the device that an act enters; device 1 where it enters none
abbrev pub enters_of : Act → ℕ
enters_of acts.Stopped = 1
enters_of acts.Pull = 1
enters_of (acts.Chain d) = d
enters_of (acts.Accept d) = d
enters_of acts.Sleep = 1
enters_of (acts.Fault v) = 1
enters_of acts.Halt = 1
enters_of acts.Skip = 1
enters_of (acts.Trap v) = 1
enters_of acts.Plain = 1
enters_of (acts.Loads byte a d) = 1
enters_of (acts.Stores byte a v) = 1

abbrev newest : Frame → List Frame → Frame
newest f [] = f
newest f (g ∷ fs) = g

-- SP as the newest handler's entry left it
abbrev pub BackIn : ℕ → Bool → List Handler → Type 0
BackIn x b [] = Unit {0}
BackIn x b (h ∷ hs) = b ≡ true → x ≡ h.left

-- ---- what a row says of its step

module _ (ev : List Event) (s : State) where
  abbrev pub FoundAt : ℕ → Type 0
  FoundAt k = (f : Frame) (fs : List Frame) → act ev s k ≡ acts.Pull → frames ev s k ≡ f ∷ fs → FrameFound f.held (due ev s k)

  abbrev pub SetsNone : ℕ → Type 0
  SetsNone k = none? (frames ev s k) ≡ false → sets_priority? (due ev s k) ≡ false

  -- SP after a step of the newest handler's own: H holds of it
  abbrev pub HeldNext : (H : ℕ → List Handler → Type 0) → ℕ → Type 0
  HeldNext H k = works? (act ev s k) ≡ true → H (sp (after ev s (suc k)).core) (handlers ev s k)

module _ {ev : List Event} {s : State} where
  module _ {k : ℕ} {t d : State} {c : Core} {a : Act} {fs : List Frame} {hs : List Handler} {b : ℕ} (R : Row ev s k t d c a fs hs b) where
    pub calm-at : Calm a fs → Calm (act ev s k) (frames ev s k)
    calm-at h = subst (λ x. Calm x (frames ev s k)) (sym (act-is ev s R)) (subst (Calm a) (sym R.frames-are) h)

    pub no_svc : svc? a ≡ false → svc? (act ev s k) ≡ false
    no_svc h = ap svc? (act-is ev s R) ∙ h

    pub no-pull : pull? a ≡ false → FoundAt ev s k
    no-pull h f gs e o = absurd (true≢false (sym (ap pull? (sym (act-is ev s R) ∙ e)) ∙ h))

    pub sets-none : executes? a && set_pri? (decode_of (word_at d.mem (pc d.core))) ≡ false → SetsNone ev s k
    sets-none h o =
        ap sets_priority? R.due-is
        ∙ ap (λ p. executes? p.act && set_pri? (decode_of (word_at d.mem (pc d.core)))) R.plan-is
        ∙ h

    pub even-at : sp d.core % 2 ≡ 0 → sp (due ev s k).core % 2 ≡ 0
    even-at h = ap (λ x. sp x.core % 2) R.due-is ∙ h

    pub given-at : (devices : ℕ) → given? devices (enters_of a) ≡ true → (e : ℕ) → Enters (act ev s k) e → given? devices e ≡ true
    given-at devices h e (inl q) = ap (λ x. given? devices (enters_of x)) (sym q ∙ act-is ev s R) ∙ h
    given-at devices h e (inr q) = ap (λ x. given? devices (enters_of x)) (sym q ∙ act-is ev s R) ∙ h

    pub held_at : (H : ℕ → List Handler → Type 0) {t' : State} → after ev s (suc k) ≡ t' → (works? a ≡ true → H (sp t'.core) hs)
        → HeldNext ev s H k
    held_at H e h w =
        subst (λ x. H (sp x.core) (handlers ev s k)) (sym e)
        (subst (H _) (sym R.handlers-are) (h (ap works? (sym (act-is ev s R)) ∙ w)))

    pub back_at : BackIn (sp d.core) (return? a) hs → BackIn (sp (due ev s k).core) (return? (act ev s k)) (handlers ev s k)
    back_at h =
        subst (λ x. BackIn (sp x.core) (return? (act ev s k)) (handlers ev s k)) (sym R.due-is)
        (subst (λ x. BackIn (sp d.core) (return? x) (handlers ev s k)) (sym (act-is ev s R))
        (subst (BackIn (sp d.core) (return? a)) (sym R.handlers-are) h))

  pub found_at : {k : ℕ} {t d : State} {c : Core} {a : Act} {f : Frame} {fs : List Frame} {hs : List Handler} {b : ℕ}
      → Row ev s k t d c a (f ∷ fs) hs b → FrameFound f.held d → FoundAt ev s k
  found_at {k = k} {f = f} R h f' fs' e o =
      subst (λ x. FrameFound x.held (due ev s k)) (ap (newest f) (sym R.frames-are ∙ o))
      (subst (FrameFound f.held) (sym R.due-is) h)

-- ---- the vectors

-- the first n bytes are those given
abbrev pub same? : List Write → ℕ → Bool
same? ws zero = true
same? ws (suc n) = same? ws n && eqb (over ws (0xFFC0 + n) 0) (byte_at vectors n)

same_at : (ws : List Write) (n j : ℕ) → same? ws n ≡ true → j < n → eqb (over ws (0xFFC0 + j) 0) (byte_at vectors j) ≡ true
same_at ws zero j e h = absurd (omega arith)
same_at ws (suc n) j e h =
    bool_cases (eqb j n)
    (λ q. subst (λ x. eqb (over ws (0xFFC0 + x) 0) (byte_at vectors x) ≡ true) (sym (eq_of q)) (and_right (same? ws n) _ e))
    (λ q. let u : j ≢ n = neq-of q in same_at ws n j (and_left (same? ws n) _ e) (omega arith))

abbrev pub SameVectors : List Write → Type 0
SameVectors ws = (i : ℕ) → i < 64 → byte_at (commit ws zeros) (0xFFC0 + i) ≡ byte_at vectors i

pub vectors-in : (ws : List Write) → same? ws 64 ≡ true → SameVectors ws
vectors-in ws e i h = byte-is ws (0xFFC0 + i) (omega arith) ∙ eq_of (same_at ws 64 i e h)

module _ (ev : List Event) (s : State) where
  abbrev pub Unaltered : ℕ → Type 0
  Unaltered k = (i : ℕ) → i < 64 → byte_at (after ev s k).mem (0xFFC0 + i) ≡ byte_at vectors i

  pub unaltered-at : (k : ℕ) {c : Core} {l n : ℕ} (ws : List Write) → after ev s k ≡ known c l n ws → SameVectors ws → Unaltered k
  unaltered-at k ws e h i l = ap (λ x. byte_at x.mem (0xFFC0 + i)) e ∙ h i l
