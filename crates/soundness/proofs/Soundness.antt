-- A kind is found in a run exactly if its premise fails, first at the step told; nothing is found in a run of an accepted start exactly if
-- it keeps the premises of resumption. Assumes nothing.
use Prim.Native.Nat.{ℕ, ◌+◌, ◌*◌, ◌<◌}
use native.Mathlib.Omega.{arith}
use mathlib.Core.Bool.{Bool, true, false, cond, not, ◌&&◌, ◌||◌, true≢false, false≢true}
use mathlib.Core.List.{List, [], ◌∷◌}
use mathlib.Core.Path.{◌≡◌, refl, sym, ap, subst, ◌∙◌}
use lib.Dec.{eqb}
use Rattle.word.specs.Width.{bit}
use Rattle.word.specs.Psw.{asleep?}
use Rattle.machine.specs.State.{State, sp, pc}
use Rattle.machine.specs.Record.{state_in}
use Rattle.machine.specs.Events.{Event, events_of}
use Rattle.machine.specs.Devices.{device?}
use Rattle.machine.specs.declared.Act.{Act}
use Rattle.machine.specs.declared.Act.TheVariants as acts
use Rattle.machine_laws.specs.Bounds.{Each}
use Rattle.machine_laws.proofs.Cases.{bool_cases, list_cases, eq_of, is_eq}
use Rattle.resume.specs.Frames.{Start, Frame, none?, own?, Calm, due, act, frames, application?, foreign?}
use Rattle.resume.specs.Resume.{Premises}
use Rattle.resume.proofs.RowFacts.{Restored, OwnTrap, Awake, ReadsOwn}
use Rattle.resume.proofs.Step.{each_map}
use Rattle.resume.proofs.Resume.{resumes}
use Rattle.soundness.specs.Findings.{Kind, started, faulted, unopened, trapped, unclosed, changed, slept, device, foreign, Handler}
use Rattle.soundness.specs.Findings.{Finding, nothing, finding, application_runs, fault?, pull?, return?, changes_of, kept_in, kept_at}
use Rattle.soundness.specs.Findings.{changes, some?, start_faults, breaks?, reads_in, seen, start_finding, open_finding, found_of}
use Rattle.soundness.specs.Findings.{kinds_found, handlers, oldest, first_breach}
use Rattle.soundness.specs.Soundness.{Judges, SoundResumes, FindsFirst, FindsAll, NoFault, ReturnsFramed, Least, Premise, OpenSince}
use Rattle.soundness.specs.Soundness.{FailsAt, JudgesKinds, Divides}
use Rattle.soundness.proofs.First.{breach-none, none-breach, breach-first}
use Rattle.soundness.proofs.Since.{since, open_step}
use Rattle.soundness.proofs.Changes.{bit-clear, not-clear, found-unchanged, unchanged-found}

-- ---- tests

-- one test holds, so the other does not; and back
both_false : {a b : Bool} → a && b ≡ false → a ≡ true → b ≡ false
both_false {a} {b} e h = sym (ap (λ x. x && b) h) ∙ e

false-both : {a b : Bool} → (a ≡ true → b ≡ false) → a && b ≡ false
false-both {a} {b} f = bool_cases a (λ h. ap (λ x. x && b) h ∙ f h) (λ h. ap (λ x. x && b) h)

not_set : {b : Bool} → b ≡ true → not b ≡ false
not_set h = ap not h

either_left : (a b : Bool) → a || b ≡ false → a ≡ false
either_left true b e = e
either_left false b e = refl

either-right : (a b : Bool) → a || b ≡ false → b ≡ false
either-right true b e = absurd (true≢false e)
either-right false b e = e

-- ---- a step's premises

-- a fault, and a return with no frame open, are what calm rules out
calm-fault : (a : Act) (fs : List Frame) → Calm a fs → NoFault a
calm-fault a fs c = record { no_fault = λ v e. subst (λ x. Calm x fs) e c; no_halt = λ e. subst (λ x. Calm x fs) e c }

calm_return : (a : Act) (fs : List Frame) → Calm a fs → ReturnsFramed a fs
calm_return a fs c = record { pulls = λ e. subst (λ x. Calm x fs) e c; chains = λ d e. subst (λ x. Calm x fs) e c }

calm_of : (a : Act) (fs : List Frame) → NoFault a → ReturnsFramed a fs → Calm a fs
calm_of acts.Stopped fs f r = tt
calm_of acts.Pull fs f r = r.pulls refl
calm_of (acts.Chain d) fs f r = r.chains d refl
calm_of (acts.Accept d) fs f r = tt
calm_of acts.Sleep fs f r = tt
calm_of (acts.Fault v) fs f r = f.no_fault v refl
calm_of acts.Halt fs f r = f.no_halt refl
calm_of acts.Skip fs f r = tt
calm_of (acts.Trap v) fs f r = tt
calm_of acts.Plain fs f r = tt
calm_of (acts.Loads byte a d) fs f r = tt
calm_of (acts.Stores byte a v) fs f r = tt

-- their tests
fault-none : (a : Act) → fault? a ≡ false → NoFault a
fault-none a e =
    record { no_fault = λ v q. true≢false (sym (ap fault? q) ∙ e); no_halt = λ q. true≢false (sym (ap fault? q) ∙ e) }

none-fault : (a : Act) → NoFault a → fault? a ≡ false
none-fault acts.Stopped f = refl
none-fault acts.Pull f = refl
none-fault (acts.Chain d) f = refl
none-fault (acts.Accept d) f = refl
none-fault acts.Sleep f = refl
none-fault (acts.Fault v) f = absurd (f.no_fault v refl)
none-fault acts.Halt f = absurd (f.no_halt refl)
none-fault acts.Skip f = refl
none-fault (acts.Trap v) f = refl
none-fault acts.Plain f = refl
none-fault (acts.Loads byte a d) f = refl
none-fault (acts.Stores byte a v) f = refl

return-framed : (a : Act) (fs : List Frame) → return? a && none? fs ≡ false → ReturnsFramed a fs
return-framed a fs e = record { pulls = λ q. both_false e (ap return? q); chains = λ d q. both_false e (ap return? q) }

framed-return : (a : Act) (fs : List Frame) → ReturnsFramed a fs → return? a && none? fs ≡ false
framed-return acts.Stopped fs r = refl
framed-return acts.Pull fs r = r.pulls refl
framed-return (acts.Chain d) fs r = r.chains d refl
framed-return (acts.Accept d) fs r = refl
framed-return acts.Sleep fs r = refl
framed-return (acts.Fault v) fs r = refl
framed-return acts.Halt fs r = refl
framed-return acts.Skip fs r = refl
framed-return (acts.Trap v) fs r = refl
framed-return acts.Plain fs r = refl
framed-return (acts.Loads byte a d) fs r = refl
framed-return (acts.Stores byte a v) fs r = refl

pull-is : (a : Act) → pull? a ≡ true → a ≡ acts.Pull
pull-is acts.Stopped e = absurd (false≢true e)
pull-is acts.Pull e = refl
pull-is (acts.Chain d) e = absurd (false≢true e)
pull-is (acts.Accept d) e = absurd (false≢true e)
pull-is acts.Sleep e = absurd (false≢true e)
pull-is (acts.Fault v) e = absurd (false≢true e)
pull-is acts.Halt e = absurd (false≢true e)
pull-is acts.Skip e = absurd (false≢true e)
pull-is (acts.Trap v) e = absurd (false≢true e)
pull-is acts.Plain e = absurd (false≢true e)
pull-is (acts.Loads byte a d) e = absurd (false≢true e)
pull-is (acts.Stores byte a v) e = absurd (false≢true e)

-- bytes of which none has it
some-none : (g : ℕ → Bool) (l : List ℕ) → some? g l ≡ false → Each (λ a. g a ≡ false) l
some-none g [] e = tt
some-none g (a ∷ l) e = (either_left (g a) (some? g l) e, some-none g l (either-right (g a) (some? g l) e))

none-some : (g : ℕ → Bool) (l : List ℕ) → Each (λ a. g a ≡ false) l → some? g l ≡ false
none-some g [] h = refl
none-some g (a ∷ l) h = λ i. h.0 i || none-some g l h.1 i

each_both : (P Q : ℕ → Type 0) (l : List ℕ) → Each P l → Each Q l → Each (λ a. P a × Q a) l
each_both P Q [] p q = tt
each_both P Q (a ∷ l) p q = ((p.0, q.0), each_both P Q l p.1 q.1)

-- ---- a step's breaches

module _ (ev : List Event) (s : State) (k : ℕ) where
  trap-own : breaks? trapped (seen ev s k) ≡ false → OwnTrap ev s k
  trap-own e h = not-clear (own? (frames ev s k)) (both_false e h)

  own-trapped : OwnTrap ev s k → breaks? trapped (seen ev s k) ≡ false
  own-trapped f = false-both (λ h. not_set (f h))

  unchanged-restored : breaks? changed (seen ev s k) ≡ false → Restored ev s k
  unchanged-restored e f fs a o q =
      let none : changes (frames ev s k) (due ev s k) ≡ 0 =
      eq_of (not-clear (eqb (changes (frames ev s k) (due ev s k)) 0) (both_false e (ap pull? a))) in
      unchanged-found f.held (due ev s k)
      (sym (ap (λ b. cond b 0 (changes_of (kept_in f.held) (kept_at (sp f.held.core) (due ev s k)))) q)
      ∙ sym (ap (λ x. changes x (due ev s k)) o)
      ∙ none)

  restored-none : Restored ev s k → act ev s k ≡ acts.Pull → changes (frames ev s k) (due ev s k) ≡ 0
  restored-none R a =
      list_cases (frames ev s k)
      (λ o. ap (λ x. changes x (due ev s k)) o)
      (λ f fs o.
      ap (λ x. changes x (due ev s k)) o
      ∙ bool_cases f.own
      (λ q. ap (λ b. cond b 0 (changes_of (kept_in f.held) (kept_at (sp f.held.core) (due ev s k)))) q)
      (λ q. ap (λ b. cond b 0 (changes_of (kept_in f.held) (kept_at (sp f.held.core) (due ev s k)))) q
      ∙ found-unchanged f.held (due ev s k) (R f fs a o q)))

  restored-unchanged : Restored ev s k → breaks? changed (seen ev s k) ≡ false
  restored-unchanged R = false-both (λ h. not_set (is_eq (restored-none R (pull-is (act ev s k) h))))

  slept-awake : breaks? slept (seen ev s k) ≡ false → Awake ev s k
  slept-awake e h = both_false e h

  awake-slept : Awake ev s k → breaks? slept (seen ev s k) ≡ false
  awake-slept f = false-both f

  abbrev mine? : Bool
  mine? = application? ev s k

  abbrev reads : List ℕ
  reads = reads_in (seen ev s k)

  unread : (g : ℕ → Bool) → mine? && some? g reads ≡ false → mine? ≡ true → Each (λ a. g a ≡ false) reads
  unread g e mine = some-none g reads (both_false e mine)

  read_none : (g : ℕ → Bool) → (mine? ≡ true → Each (λ a. g a ≡ false) reads) → mine? && some? g reads ≡ false
  read_none g f = false-both (λ mine. none-some g reads (f mine))

-- ---- the start and the close

start-clear : (s : State) → (start_finding s).found ≡ false → start_faults s ≡ 0
start-clear s e =
    bool_cases (eqb (start_faults s) 0)
    eq_of
    (λ q. absurd (true≢false (sym (ap (λ b. (cond b nothing (finding 0 (start_faults s) (pc s.core) application_runs)).found) q) ∙ e)))

clear-start : (s : State) → start_faults s ≡ 0 → (start_finding s).found ≡ false
clear-start s e =
    ap (λ b. (cond b nothing (finding 0 (start_faults s) (pc s.core) application_runs)).found) (is_eq e)

faults-clear : (a b c : Bool) → bit a + 2 * bit b + 4 * bit c ≡ 0 → (a ≡ false) × (b ≡ false) × (c ≡ false)
faults-clear a b c e = (bit-clear a (omega (arith, e)), bit-clear b (omega (arith, e)), bit-clear c (omega (arith, e)))

start_first : (s : State) → (start_finding s).found ≡ true → (start_finding s).step ≡ 0
start_first s e =
    bool_cases (eqb (start_faults s) 0)
    (λ q. ap (λ b. (cond b nothing (finding 0 (start_faults s) (pc s.core) application_runs)).step) q)
    (λ q. ap (λ b. (cond b nothing (finding 0 (start_faults s) (pc s.core) application_runs)).step) q)

none_of : (fs : List Frame) → none? fs ≡ true → fs ≡ []
none_of [] e = refl
none_of (f ∷ fs) e = absurd (false≢true e)

closed_of : (fs : List Frame) (h : Handler) → (open_finding (none? fs) h).found ≡ false → fs ≡ []
closed_of [] h e = refl
closed_of (f ∷ fs) h e = absurd (true≢false e)

-- ---- the kinds found

nine-clear : (a b c d e f g h i : Bool) → bit a + 2 * bit b + 4 * bit c + 8 * bit d + 16 * bit e + 32 * bit f + 64 * bit g + 128 * bit h
    + 256 * bit i ≡ 0
    → (a ≡ false) × (b ≡ false) × (c ≡ false) × (d ≡ false) × (e ≡ false) × (f ≡ false) × (g ≡ false) × (h ≡ false) × (i ≡ false)
nine-clear a b c d e f g h i z = (
  bit-clear a (omega (arith, z)),
  bit-clear b (omega (arith, z)),
  bit-clear c (omega (arith, z)),
  bit-clear d (omega (arith, z)),
  bit-clear e (omega (arith, z)),
  bit-clear f (omega (arith, z)),
  bit-clear g (omega (arith, z)),
  bit-clear h (omega (arith, z)),
  bit-clear i (omega (arith, z)),
)

-- none is found if nothing is found of each
pub kinds-none : (f : Kind → Finding) → ((κ : Kind) → (f κ).found ≡ false) → kinds_found f ≡ 0
kinds-none f h =
    λ i. bit (h started i) + 2 * bit (h faulted i) + 4 * bit (h unopened i) + 8 * bit (h trapped i) + 16 * bit (h unclosed i)
    + 32 * bit (h changed i) + 64 * bit (h slept i) + 128 * bit (h device i) + 256 * bit (h foreign i)

pub none-kinds : (f : Kind → Finding) → kinds_found f ≡ 0 → (κ : Kind) → (f κ).found ≡ false
none-kinds f e κ =
    of-each κ
    (nine-clear (f started).found (f faulted).found (f unopened).found (f trapped).found (f unclosed).found (f changed).found
    (f slept).found (f device).found (f foreign).found e)
  where
    of-each : (κ : Kind)
        → ((f started).found ≡ false) × ((f faulted).found ≡ false) × ((f unopened).found ≡ false) × ((f trapped).found ≡ false)
        × ((f unclosed).found ≡ false) × ((f changed).found ≡ false) × ((f slept).found ≡ false) × ((f device).found ≡ false)
        × ((f foreign).found ≡ false)
        → (f κ).found ≡ false
    of-each started z = z.0
    of-each faulted z = z.1
    of-each unopened z = z.2
    of-each trapped z = z.3
    of-each unclosed z = z.4
    of-each changed z = z.5
    of-each slept z = z.6
    of-each device z = z.7
    of-each foreign z = z.8

-- ---- kind by kind

module _ (memory r events : List ℕ) where
  abbrev ev : List Event
  ev = events_of events

  abbrev s : State
  s = state_in r memory

  kind_sound : (κ : Kind) (n : ℕ) → (found_of ev s κ n).found ≡ false → Premise memory r events κ n
  kind_sound started n e =
      let z = faults-clear (asleep? s.core.psw) s.halted (not (eqb s.lines 0)) (start-clear s e) in
      (z.0, z.1, eq_of (not-clear (eqb s.lines 0) z.2))
  kind_sound faulted n e = λ k h. fault-none (act ev s k) (breach-none ev s faulted n e k h)
  kind_sound unopened n e = λ k h. return-framed (act ev s k) (frames ev s k) (breach-none ev s unopened n e k h)
  kind_sound trapped n e = λ k h. trap-own ev s k (breach-none ev s trapped n e k h)
  kind_sound unclosed n e = closed_of (frames ev s n) (oldest (handlers ev s n)) e
  kind_sound changed n e = λ k f fs h. unchanged-restored ev s k (breach-none ev s changed n e k h) f fs
  kind_sound slept n e = λ k h. slept-awake ev s k (breach-none ev s slept n e k h)
  kind_sound device n e = λ k h. unread ev s k device? (breach-none ev s device n e k h)
  kind_sound foreign n e = λ k h. unread ev s k (foreign? ev s k) (breach-none ev s foreign n e k h)

  kind_complete : (κ : Kind) (n : ℕ) → Premise memory r events κ n → (found_of ev s κ n).found ≡ false
  kind_complete started n P = clear-start s (λ i. bit (P.0 i) + 2 * bit (P.1 i) + 4 * bit (not (is_eq P.2 i)))
  kind_complete faulted n P = none-breach ev s faulted n (λ k h. none-fault (act ev s k) (P k h))
  kind_complete unopened n P = none-breach ev s unopened n (λ k h. framed-return (act ev s k) (frames ev s k) (P k h))
  kind_complete trapped n P = none-breach ev s trapped n (λ k h. own-trapped ev s k (P k h))
  kind_complete unclosed n P = ap (λ fs. (open_finding (none? fs) (oldest (handlers ev s n))).found) P
  kind_complete changed n P = none-breach ev s changed n (λ k h. restored-unchanged ev s k (λ f fs. P k f fs h))
  kind_complete slept n P = none-breach ev s slept n (λ k h. awake-slept ev s k (P k h))
  kind_complete device n P = none-breach ev s device n (λ k h. read_none ev s k device? (P k h))
  kind_complete foreign n P = none-breach ev s foreign n (λ k h. read_none ev s k (foreign? ev s k) (P k h))

  -- of a kind whose breaches are steps'
  least : (κ : Kind) (P : ℕ → Type 0) → ((n : ℕ) → (first_breach ev s κ n).found ≡ false → P n)
      → ((n : ℕ) → P n → (first_breach ev s κ n).found ≡ false)
      → (n : ℕ) → (first_breach ev s κ n).found ≡ true → Least P n (first_breach ev s κ n).step
  least κ P to from n e =
      let F = breach-first ev s κ n e in
      record {
        within = F.within;
        kept = λ j l. to j (none-breach ev s κ j (λ i b. F.none_before i (omega (arith, l, b))));
        broken = λ j l p. true≢false (sym F.breaks ∙ breach-none ev s κ j (from j p) (first_breach ev s κ n).step l);
      }

  open_since : (n : ℕ) → (found_of ev s unclosed n).found ≡ true → OpenSince memory r events n (found_of ev s unclosed n).step
  open_since n e =
      let o = open_step (none? (frames ev s n)) (oldest (handlers ev s n)) e in
      let S = since ev s n o.0 in
      subst (OpenSince memory r events n) (sym o.1)
      (record {
        within = S.within;
        open_since = λ j l m none. true≢false (sym (ap none? none) ∙ S.open_since j l m);
        none_before = λ nc. none_of (frames ev s (oldest (handlers ev s n)).opened) (S.none_before nc);
      })

  kind_least : (κ : Kind) (n : ℕ) → (found_of ev s κ n).found ≡ true → FailsAt memory r events κ n (found_of ev s κ n).step
  kind_least started n e = (start_first s e, λ P. true≢false (sym e ∙ kind_complete started n P))
  kind_least faulted n e = least faulted (Premise memory r events faulted) (kind_sound faulted) (kind_complete faulted) n e
  kind_least unopened n e = least unopened (Premise memory r events unopened) (kind_sound unopened) (kind_complete unopened) n e
  kind_least trapped n e = least trapped (Premise memory r events trapped) (kind_sound trapped) (kind_complete trapped) n e
  kind_least unclosed n e = open_since n e
  kind_least changed n e = least changed (Premise memory r events changed) (kind_sound changed) (kind_complete changed) n e
  kind_least slept n e = least slept (Premise memory r events slept) (kind_sound slept) (kind_complete slept) n e
  kind_least device n e = least device (Premise memory r events device) (kind_sound device) (kind_complete device) n e
  kind_least foreign n e = least foreign (Premise memory r events foreign) (kind_sound foreign) (kind_complete foreign) n e

pub judges-kinds : JudgesKinds
judges-kinds memory r events κ n =
    record { sound = kind_sound memory r events κ n; complete = kind_complete memory r events κ n; least = kind_least memory r events κ n }

-- ---- the premises together

module _ (memory r events : List ℕ) (n : ℕ) where
  abbrev list : List Event
  list = events_of events

  abbrev start : State
  start = state_in r memory

  calm-parts : Premise memory r events faulted n → Premise memory r events unopened n
      → (k : ℕ) → k < n → Calm (act list start k) (frames list start k)
  calm-parts f u k h = calm_of (act list start k) (frames list start k) (f k h) (u k h)

  reads-parts : Premise memory r events device n → Premise memory r events foreign n → (k : ℕ) → k < n → ReadsOwn list start k
  reads-parts d f k h mine =
      each_both (λ a. device? a ≡ false) (λ a. foreign? list start k a ≡ false) (reads list start k) (d k h mine) (f k h mine)

  premises-apart : Premises memory r events n → (κ : Kind) → Premise memory r events κ n
  premises-apart P started = (P.awake, P.not_halted, P.no_line)
  premises-apart P faulted = λ k h. calm-fault (act list start k) (frames list start k) (P.calm k h)
  premises-apart P unopened = λ k h. calm_return (act list start k) (frames list start k) (P.calm k h)
  premises-apart P trapped = P.own_traps
  premises-apart P unclosed = P.closed
  premises-apart P changed = P.restored
  premises-apart P slept = P.never_sleeps
  premises-apart P device = λ k h mine. each_map _ _ (λ a p. p.0) (reads list start k) (P.reads_own k h mine)
  premises-apart P foreign = λ k h mine. each_map _ _ (λ a p. p.1) (reads list start k) (P.reads_own k h mine)

  premises-together : Start memory r events n → ((κ : Kind) → Premise memory r events κ n) → Premises memory r events n
  premises-together ok P =
      record {
        accepted = ok;
        awake = (P started).0;
        not_halted = (P started).1;
        no_line = (P started).2;
        calm = calm-parts (P faulted) (P unopened);
        own_traps = P trapped;
        closed = P unclosed;
        restored = P changed;
        never_sleeps = P slept;
        reads_own = reads-parts (P device) (P foreign);
      }

pub divides : Divides
divides memory r events n =
    record {
      calm = calm-parts memory r events n;
      reads_own = reads-parts memory r events n;
      apart = premises-apart memory r events n;
      together = premises-together memory r events n;
    }

pub judges : Judges
judges memory r events n ok =
    let found : Kind → Finding = λ κ. found_of (events_of events) (state_in r memory) κ n in
    record {
      sound = λ e. (divides memory r events n).together ok (λ κ. kind_sound memory r events κ n (none-kinds found e κ));
      complete = λ P. kinds-none found (λ κ. kind_complete memory r events κ n ((divides memory r events n).apart P κ));
    }

pub sound-resumes : SoundResumes
sound-resumes memory r events n ok e = resumes memory r events n ((judges memory r events n ok).sound e)

pub finds-first : FindsFirst
finds-first ev s κ n = breach-first ev s κ n

pub finds-all : FindsAll
finds-all ev s κ n = breach-none ev s κ n
