-- What is carried is what the run shows, and what is told is what is found. Assumes nothing.
use Prim.Native.Nat.{ℕ, zero, suc, ◌+◌, ◌<◌, ◌≤◌}
use mathlib.Core.Bool.{Bool, true, false, cond, not, ◌&&◌}
use mathlib.Core.List.{List}
use mathlib.Core.Path.{◌≡◌, refl, sym, ap, subst, ◌∙◌}
use lib.Dec.{eqb, ltb}
use lib.ListN.{length, length-replicate}
use Rattle.machine.specs.State.{State}
use Rattle.machine.specs.Memory.{byte_at, writes?}
use Rattle.machine.specs.Record.{state_in}
use Rattle.machine.specs.Events.{Event, events_of}
use Rattle.machine.specs.Step.{outcome_of}
use Rattle.machine_laws.specs.Bounds.{Each, EventFits, Tidy}
use Rattle.machine_laws.proofs.Cases.{bool_cases, lt_of, ge-of}
use Rattle.machine_laws.proofs.Records.{passed, events-fit, start-tidy}
use Rattle.machine_laws.proofs.Steps.{deliver-tidy, run-tidy}
use Rattle.resume.specs.Frames.{Start, own?, accepts_none?, own_writes?, after, due, act, frames, foreign?}
use Rattle.resume.proofs.Trace.{zero-at}
use Rattle.soundness.specs.Findings.{Kind, started, faulted, unopened, trapped, unclosed, changed, slept, device, foreign}
use Rattle.soundness.specs.Findings.{find_after, open_finding, oldest, seen, handlers, first_breach, found_of}
use Rattle.soundness.specs.Watch.{no_device?, open_in, held_changes, held_runs, owns_after, devices_after, oldest_after}
use Rattle.soundness.specs.Verdict.{last_writer}
use Rattle.soundness.specs.Watch.{writer_of, watch, watched, noted, told_of, FramesLayered, Carried, Tells}
use Rattle.soundness.proofs.Layers.{paired, paired-layered, owns_of, held_of, no-device, open_is, none_is, changes-is, runs-is}
use Rattle.soundness.proofs.Layers.{owns-after, devices-after, oldest-after}
use Rattle.soundness.proofs.Writers.{marked-length, marked-at, past, writes-within}

pub frames-layered : FramesLayered
frames-layered ev s k = paired-layered (frames ev s k) (handlers ev s k) (paired ev s k)

module _ (ev : List Event) (s : State) where
  -- ---- the frames

  record Sums (k : ℕ) : Type 0 where
    pub owns : (watch ev s k).owns ≡ owns_of (frames ev s k)
    pub devices : (watch ev s k).devices ≡ held_of (frames ev s k) (handlers ev s k)
    pub oldest : (watch ev s k).oldest ≡ oldest (handlers ev s k)

  module _ (k : ℕ) (S : Sums k) where
    open-sums : open_in (watch ev s k) ≡ length (frames ev s k)
    open-sums =
        (λ i. S.owns i + length (S.devices i))
        ∙ open_is (frames ev s k) (handlers ev s k) (paired ev s k)

    own-sums : no_device? (watch ev s k).devices ≡ own? (frames ev s k)
    own-sums = ap no_device? S.devices ∙ no-device (frames ev s k) (handlers ev s k) (paired ev s k)

    next-sums : Sums (suc k)
    unfolding watch frames handlers
    next-sums =
        let a = act ev s k in
        let t = after ev s (suc k) in
        let fs = frames ev s k in
        let hs = handlers ev s k in
        record {
          owns = (λ i. owns_after a (S.owns i) (S.devices i)) ∙ owns-after a t fs hs (paired ev s k);
          devices = (λ i. devices_after a k t (S.owns i) (S.devices i)) ∙ devices-after a k t fs hs (paired ev s k);
          oldest = (λ i. oldest_after a k (open-sums i) (own-sums i) (S.oldest i)) ∙ oldest-after a k fs hs (paired ev s k);
        }

  start-sums : Sums 0
  unfolding watch frames handlers
  start-sums = record { owns = refl; devices = refl; oldest = refl }

  sums : (k : ℕ) → Sums k
  sums zero = start-sums
  sums (suc k) = next-sums k (sums k)

  -- ---- the bytes

  writers-length : (k : ℕ) → length (watch ev s k).writers ≡ 65536
  unfolding watch
  writers-length zero = length-replicate {A = ℕ} 65536 0
  writers-length (suc k) =
      marked-length (writer_of (act ev s k) (watch ev s k).devices) (outcome_of (due ev s k)).writes (watch ev s k).writers
      ∙ writers-length k

  -- marks 1 and 2 tell whose a byte is
  mark-is : (own : Bool) → eqb (cond own 1 2) 2 ≡ not own
  mark-is true = refl
  mark-is false = refl

  mark-next : (w own : Bool) (y : ℕ) (b : Bool) → eqb y 2 ≡ b → eqb (cond w (cond own 1 2) y) 2 ≡ cond w (not own) b
  mark-next true own y b e = mark-is own
  mark-next false own y b e = e

  -- and 2 that it is a handler's or an entry's
  pub foreign-within : (k a : ℕ) → a < 65536 → eqb (byte_at (watch ev s k).writers a) 2 ≡ foreign? ev s k a
  unfolding watch foreign?
  foreign-within zero a h = ap (λ x. eqb x 2) (zero-at 65536 a)
  foreign-within (suc k) a h =
      let ws = (outcome_of (due ev s k)).writes in
      let l = (watch ev s k).writers in
      ap (λ x. eqb x 2)
      (marked-at (writer_of (act ev s k) (watch ev s k).devices) ws l a (subst (λ n. a < n) (sym (writers-length k)) h))
      ∙ ap (λ b. eqb (cond (writes? ws a) (cond (b && accepts_none? (act ev s k)) 1 2) (byte_at l a)) 2) (own-sums k (sums k))
      ∙ mark-next (writes? ws a) (own_writes? (act ev s k) (frames ev s k)) (byte_at l a) (foreign? ev s k a) (foreign-within k a h)

  -- a byte's mark says who wrote it last
  pub writer-is : (k a : ℕ) → a < 65536 → byte_at (watch ev s k).writers a ≡ last_writer ev s k a
  unfolding watch last_writer
  writer-is zero a h = zero-at 65536 a
  writer-is (suc k) a h =
      let ws = (outcome_of (due ev s k)).writes in
      let l = (watch ev s k).writers in
      marked-at (writer_of (act ev s k) (watch ev s k).devices) ws l a (subst (λ n. a < n) (sym (writers-length k)) h)
      ∙ (λ i. cond (writes? ws a) (cond (own-sums k (sums k) i && accepts_none? (act ev s k)) 1 2) (writer-is k a h i))

  module _ (fit : Each EventFits ev) (tidy : Tidy s) where
    due-tidy : (k : ℕ) → Tidy (due ev s k)
    due-tidy k = deliver-tidy (after ev s k).count ev (after ev s k) fit (run-tidy ev s k fit tidy)

    foreign-past : (k a : ℕ) → 65536 ≤ a → foreign? ev s k a ≡ false
    unfolding foreign?
    foreign-past zero a h = refl
    foreign-past (suc k) a h =
        ap (λ b. cond b (not (own_writes? (act ev s k) (frames ev s k))) (foreign? ev s k a)) (writes-within (due ev s k) a (due-tidy k) h)
        ∙ foreign-past k a h

    foreign-is : (k a : ℕ) → eqb (byte_at (watch ev s k).writers a) 2 ≡ foreign? ev s k a
    foreign-is k a =
        bool_cases (ltb a 65536)
        (λ q. foreign-within k a (lt_of q))
        (λ q.
        let h : 65536 ≤ a = ge-of q in
        ap (λ x. eqb x 2) (past (watch ev s k).writers a (subst (λ n. n ≤ a) (sym (writers-length k)) h)) ∙ sym (foreign-past k a h))

    -- ---- what a step shows

    pub watched-is : (k : ℕ) → watched ev s k ≡ seen ev s k
    watched-is k =
        let fs = frames ev s k in
        let hs = handlers ev s k in
        let p = paired ev s k in
        let S = sums k in
        let n = ap (λ x. eqb x 0) (open-sums k S) ∙ none_is fs in
        let o = own-sums k S in
        let c = ap (λ x. held_changes x (due ev s k)) S.devices ∙ changes-is (due ev s k) fs hs p in
        let r = ap held_runs S.devices ∙ runs-is fs hs p in
        λ i. record {
          act = act ev s k;
          begins = due ev s k;
          leaves = after ev s (suc k);
          none_open = n i;
          own_open = o i;
          changes = c i;
          runs = r i;
          foreign = λ a. foreign-is k a i;
        }

    pub noted-is : (κ : Kind) (k : ℕ) → noted ev s κ k ≡ first_breach ev s κ k
    unfolding noted first_breach
    noted-is κ zero = refl
    noted-is κ (suc k) = λ i. find_after κ k (watched-is k i) (noted-is κ k i)

    pub open_told : (k : ℕ) → told_of ev s unclosed k ≡ found_of ev s unclosed k
    open_told k =
        let S = sums k in
        let n = ap (λ x. eqb x 0) (open-sums k S) ∙ none_is (frames ev s k) in
        λ i. open_finding (n i) (S.oldest i)

    pub told_is : (κ : Kind) (k : ℕ) → told_of ev s κ k ≡ found_of ev s κ k
    told_is started k = refl
    told_is faulted k = noted-is faulted k
    told_is unopened k = noted-is unopened k
    told_is trapped k = noted-is trapped k
    told_is unclosed k = open_told k
    told_is changed k = noted-is changed k
    told_is slept k = noted-is slept k
    told_is device k = noted-is device k
    told_is foreign k = noted-is foreign k

-- ---- of an accepted start

module _ (memory r events : List ℕ) (n : ℕ) (ok : Start memory r events n) where
  start-fit : Each EventFits (events_of events)
  start-fit = events-fit memory r events n (passed memory r events n ok.accepted) ok.event_bytes

  started-tidy : Tidy (state_in r memory)
  started-tidy = start-tidy memory r events n (passed memory r events n ok.accepted) ok.memory_bytes ok.record_bytes

pub carried : Carried
carried memory r events n ok =
    watched-is (events_of events) (state_in r memory) (start-fit memory r events n ok) (started-tidy memory r events n ok)

pub tells : Tells
tells memory r events n ok =
    told_is (events_of events) (state_in r memory) (start-fit memory r events n ok) (started-tidy memory r events n ok)
