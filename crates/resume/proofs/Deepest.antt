-- The figure of a run: it is what is carried from step to step, it is reached and not passed, it is that of one run where the run
-- was in slices, and Depth bounds it. Assumes nothing.
use Prim.Native.Nat.{ℕ, zero, suc, ◌+◌, ◌-◌, ◌<◌, ◌≤◌}
use native.Mathlib.Omega.{arith}
use mathlib.Core.Bool.{cond}
use mathlib.Core.List.{List, [], ◌∷◌}
use mathlib.Core.Logic.{◌≢◌}
use mathlib.Core.Path.{◌≡◌, refl, sym, ap, subst, ◌∙◌}
use lib.Dec.{ltb}
use lib.ListN.{length}
use Rattle.std.specs.Prelude.{Ok}
use Rattle.machine.specs.declared.Act.{Act}
use Rattle.machine.specs.declared.Act.TheVariants as acts
use Rattle.machine.specs.State.{State}
use Rattle.machine.specs.Record.{state_in}
use Rattle.machine.specs.Events.{Event, events_of}
use Rattle.machine.specs.Refusal.{call_verdict, refusal_number, accepted?}
use Rattle.machine.specs.Logged.{run_logged}
use Rattle.machine.specs.Call.{run_on, room_of}
use Rattle.machine.specs.Depth.{greater, depth, depth_after, depth_from, call_deepest}
use Rattle.machine_laws.proofs.Cases.{bool_cases, lt_of, ge-of, not-lt}
use Rattle.machine_laws.proofs.Records.{passed, is-refused}
use Rattle.run_laws.proofs.Room.{logged-le}
use Rattle.run_laws.proofs.Verdicts.{call-start}
use Rattle.run_laws.proofs.Depth.{depth-append, depth-slices, open-le}
use Rattle.resume.specs.Frames.{Frame, older, chained, frames_after, after, act, frames}
use Rattle.resume.specs.Depth.{lowest}
use Rattle.resume.specs.Deepest.{deepest_of, deepest_left, Reaches, Carried, Bounded, CallBounded}
use Rattle.resume.proofs.Depth as frame

-- ---- the greater of two numbers

greater-left : (a b : ℕ) → b ≤ a → greater a b ≡ a
greater-left a b h = ap (λ t. cond t b a) (not-lt h)

pub greater-ge-left : (a b : ℕ) → a ≤ greater a b
greater-ge-left a b = bool_cases (ltb a b) (λ q. let h : a < b = lt_of q in rw q (omega arith)) (λ q. rw q (omega arith))

pub greater-ge-right : (a b : ℕ) → b ≤ greater a b
greater-ge-right a b = bool_cases (ltb a b) (λ q. rw q (omega arith)) (λ q. let h : b ≤ a = ge-of q in rw q (omega arith))

pub greater-le : (a b c : ℕ) → a ≤ c → b ≤ c → greater a b ≤ c
greater-le a b c h k = bool_cases (ltb a b) (λ q. rw q k) (λ q. rw q h)

-- ---- one step

older-length : (fs : List Frame) → length (older fs) ≡ length fs - 1
older-length [] = omega arith
older-length (f ∷ fs) = omega arith

chained-length : (t : State) (fs : List Frame) → length (chained t fs) ≡ length fs
chained-length t [] = refl
chained-length t (f ∷ fs) = refl

-- as many frames as before
as_before : (o d : ℕ) (fs : List Frame) → length fs ≡ o → o ≤ d → depth o d ≡ depth (length fs) (greater d (length fs))
as_before o d fs e h =
    ap (depth o) (sym (greater-left d o h)) ∙ ap (λ i. depth i (greater d i)) (sym e)

-- the pair after a step, of frames and a figure not below their number
after_step : (a : Act) (t : State) (fs : List Frame) (d : ℕ) → length fs ≤ d
    → depth_after a (depth (length fs) d) ≡ depth (length (frames_after a t fs)) (greater d (length (frames_after a t fs)))
after_step acts.Stopped t fs d h = as_before (length fs) d fs refl h
after_step acts.Pull t fs d h =
    let e = older-length fs in as_before (length fs - 1) d (older fs) e (omega arith)
after_step (acts.Chain v) t fs d h = as_before (length fs) d (chained t fs) (chained-length t fs) h
after_step (acts.Accept v) t fs d h = refl
after_step acts.Sleep t fs d h = as_before (length fs) d fs refl h
after_step (acts.Fault v) t fs d h = refl
after_step acts.Halt t fs d h = as_before (length fs) d fs refl h
after_step acts.Skip t fs d h = as_before (length fs) d fs refl h
after_step (acts.Trap v) t fs d h = refl
after_step acts.Plain t fs d h = as_before (length fs) d fs refl h
after_step (acts.Loads b a v) t fs d h = as_before (length fs) d fs refl h
after_step (acts.Stores b a v) t fs d h = as_before (length fs) d fs refl h

-- ---- one run

module _ (ev : List Event) (s : State) where
  -- the figure is not below the frames open after the last step
  now-le : (n : ℕ) → length (frames ev s n) ≤ deepest_of ev s n
  unfolding deepest_of frames
  now-le zero = omega arith
  now-le (suc n) = greater-ge-right (deepest_of ev s n) (length (frames ev s (suc n)))

  -- the pair carried from none open is the frames open and the figure
  pub depth-carried : (n : ℕ) → depth_from ev s (depth 0 0) n ≡ depth (length (frames ev s n)) (deepest_of ev s n)
  unfolding depth_from deepest_of frames
  depth-carried zero = refl
  depth-carried (suc n) =
      ap (depth_after (act ev s n)) (depth-carried n)
      ∙ after_step (act ev s n) (after ev s (suc n)) (frames ev s n) (deepest_of ev s n) (now-le n)

  -- nor below those open at any step
  pub deepest-ge : (n k : ℕ) → k ≤ n → length (frames ev s k) ≤ deepest_of ev s n
  unfolding deepest_of
  deepest-ge zero k h = let e : k ≡ 0 = omega arith in subst (λ i. length (frames ev s i) ≤ 0) (sym e) (now-le 0)
  deepest-ge (suc n) k h =
      bool_cases (ltb n k)
      (λ q.
      let l : n < k = lt_of q in
      let e : k ≡ suc n = omega arith in
      subst (λ i. length (frames ev s i) ≤ deepest_of ev s (suc n)) (sym e) (now-le (suc n)))
      (λ q.
      let l : k ≤ n = ge-of q in
      let a = deepest-ge n k l in
      let b = greater-ge-left (deepest_of ev s n) (length (frames ev s (suc n))) in
      omega arith)

  -- no greater than a bound on the frames open
  pub deepest-le : (n c : ℕ) → ((k : ℕ) → k ≤ n → length (frames ev s k) ≤ c) → deepest_of ev s n ≤ c
  unfolding deepest_of
  deepest-le zero c h = omega arith
  deepest-le (suc n) c h =
      greater-le (deepest_of ev s n) (length (frames ev s (suc n))) c
      (deepest-le n c (λ k l. h k (omega arith))) (h (suc n) (omega arith))

  -- one of the steps has as many
  found : (n : ℕ) → (k : ℕ) × (k ≤ n) × (length (frames ev s k) ≡ deepest_of ev s n)
  unfolding deepest_of frames
  found zero = (0, omega arith, refl)
  found (suc n) =
      let d = deepest_of ev s n in
      let l = length (frames ev s (suc n)) in
      let r = found n in
      let below = r.1 in
      bool_cases (ltb d l)
      (λ q. (suc n, omega arith, sym (ap (λ t. cond t l d) q))) (λ q. (r.0, omega arith, r.2 ∙ sym (ap (λ t. cond t l d) q)))

  pub deepest-reached : (n : ℕ) → Reaches ev s n (deepest_of ev s n)
  deepest-reached n =
      let f = found n in record { bound = deepest-ge n; at = f.0; within = f.1; reached = f.2 }

  -- at most one a step
  pub deepest-steps : (n : ℕ) → deepest_of ev s n ≤ n
  deepest-steps n =
      deepest-le n n
      (λ k h.
      let l = open-le ev s (depth 0 0) k in
      let e = ap (λ p. p.opened) (depth-carried k) in
      omega arith)

  -- ---- slices

  -- the pair of the first slice, carried over the second, is the whole run's
  pub deepest-slices : (m n : ℕ)
      → depth_from ev (after ev s m) (depth (length (frames ev s m)) (deepest_of ev s m)) n
      ≡ depth (length (frames ev s (m + n))) (deepest_of ev s (m + n))
  deepest-slices m n =
      ap (λ p. depth_from ev (after ev s m) p n) (sym (depth-carried m))
      ∙ sym (depth-append ev s (depth 0 0) m n)
      ∙ depth-carried (m + n)

  -- of a run over a log and of the one that goes on from it, each at its own steps, that of the one run with all the room
  pub deepest-logged : (k n K N : ℕ) → length (run_logged ev s k n).records ≤ K → (run_logged ev s k n).steps ≤ N
      → (depth_from ev (run_logged ev s k n).state
      (depth (length (frames ev s (run_logged ev s k n).steps)) (deepest_of ev s (run_logged ev s k n).steps))
      (run_logged ev (run_logged ev s k n).state (K - length (run_logged ev s k n).records) (N - (run_logged ev s k n).steps)).steps
      ).deepest
      ≡ deepest_of ev s (run_logged ev s K N).steps
  deepest-logged k n K N w h =
      let x = run_logged ev s k n in
      let y = run_logged ev x.state (K - length x.records) (N - x.steps) in
      ap (λ p. (depth_from ev x.state p y.steps).deepest) (sym (depth-carried x.steps))
      ∙ ap (λ p. p.deepest) (depth-slices ev s (depth 0 0) k n K N w h ∙ depth-carried (run_logged ev s K N).steps)

pub carried : Carried
carried = depth-carried

-- ---- the bound

pub bounded : Bounded
bounded memory r events n p =
    deepest-le (events_of events) (state_in r memory) n (7 - lowest (events_of events) (state_in r memory) n)
    (frame.depth memory r events n p)

-- ---- the call

module _ (memory r events log : List ℕ) (n number : ℕ) where
  -- what the engine carries is what the call leaves, accepted or refused
  pub call-carried : call_deepest memory r events log n number ≡ deepest_left memory r events log n number
  unfolding call_deepest deepest_left
  call-carried =
      ap (λ p. cond (accepted? (call_verdict memory r events log n)) p.deepest number)
      (depth-carried (events_of events) (state_in r memory) (run_on memory r events log n).steps)

  pub refused-number : refusal_number (call_verdict memory r events log n) ≢ 0 → deepest_left memory r events log n number ≡ number
  unfolding deepest_left
  refused-number h =
      ap (λ b. cond b (deepest_of (events_of events) (state_in r memory) (run_on memory r events log n).steps) number)
      (is-refused (call_verdict memory r events log n) h)

  module _ (ok : call_verdict memory r events log n ≡ Ok tt) where
    pub accepted-figure : deepest_left memory r events log n number
        ≡ deepest_of (events_of events) (state_in r memory) (run_on memory r events log n).steps
    unfolding deepest_left
    accepted-figure =
        ap (λ v. cond (accepted? v) (deepest_of (events_of events) (state_in r memory) (run_on memory r events log n).steps) number) ok

    -- its size
    pub accepted-small : deepest_left memory r events log n number ≤ 1000000
    accepted-small =
        let few = (passed memory r events n (call-start memory r events log n ok)).few_steps in
        let l = logged-le (events_of events) (state_in r memory) (room_of log) n in
        let d = deepest-steps (events_of events) (state_in r memory) (run_on memory r events log n).steps in
        rw accepted-figure (omega arith)

pub call-bounded : CallBounded
call-bounded memory r events log n number ok p =
    rw (accepted-figure memory r events log n number ok) (bounded memory r events (run_on memory r events log n).steps p)
