-- The depth of a run: over slices, over a stretch that is uneventful, in one step more, and in a run with a log. It is carried from act to
-- act, so each law goes by the steps; an uneventful act leaves it. Assumes nothing.
use Prim.Native.Nat.{ℕ, zero, suc, ◌+◌, ◌-◌, ◌≤◌}
use native.Mathlib.Nat.{add-suc, add-zero}
use native.Mathlib.Numerals.{add-one}
use native.Mathlib.Omega.{arith}
use mathlib.Core.Bool.{true, false, cond, true≢false}
use mathlib.Core.List.{List, [], ◌∷◌}
use mathlib.Core.Path.{◌≡◌, refl, sym, ap, ◌∙◌}
use lib.ListN.{length}
use Rattle.std.specs.Prelude.{Ok}
use Rattle.machine.specs.declared.Act.{Act}
use Rattle.machine.specs.declared.Act.TheVariants as act
use Rattle.machine.specs.declared.Depth.{Depth}
use Rattle.machine.specs.State.{State}
use Rattle.machine.specs.Record.{state_in}
use Rattle.machine.specs.Events.{Event, events_of}
use Rattle.machine.specs.Run.{ran, run_of}
use Rattle.machine.specs.Logged.{run_logged}
use Rattle.machine.specs.Uneventful.{uneventful?, next_act, Uneventful}
use Rattle.machine.specs.Refusal.{call_verdict, accepted?}
use Rattle.machine.specs.Call.{run_on}
use Rattle.machine.specs.Depth.{depth, depth_after, depth_from, deepest_from, call_deepest}
use Rattle.machine_laws.proofs.Runs.{run-append}
use Rattle.run_laws.proofs.Room.{logged-run, logged-slices}

-- ---- one act

-- an uneventful act does not move the depth
uneventful-after : (a : Act) (p : Depth) → uneventful? a ≡ true → depth_after a p ≡ p
uneventful-after act.Stopped p h = refl
uneventful-after act.Pull p h = absurd (true≢false (sym h))
uneventful-after (act.Chain d) p h = refl
uneventful-after (act.Accept d) p h = absurd (true≢false (sym h))
uneventful-after act.Sleep p h = refl
uneventful-after (act.Fault v) p h = absurd (true≢false (sym h))
uneventful-after act.Halt p h = refl
uneventful-after act.Skip p h = refl
uneventful-after (act.Trap v) p h = absurd (true≢false (sym h))
uneventful-after act.Plain p h = refl
uneventful-after (act.Loads b a d) p h = refl
uneventful-after (act.Stores b a v) p h = refl

-- at most one frame more
open_step : (a : Act) (p : Depth) → (depth_after a p).opened ≤ suc p.opened
open_step act.Stopped p = omega arith
open_step act.Pull p = omega arith
open_step (act.Chain d) p = omega arith
open_step (act.Accept d) p = omega arith
open_step act.Sleep p = omega arith
open_step (act.Fault v) p = omega arith
open_step act.Halt p = omega arith
open_step act.Skip p = omega arith
open_step (act.Trap v) p = omega arith
open_step act.Plain p = omega arith
open_step (act.Loads b a d) p = omega arith
open_step (act.Stores b a v) p = omega arith

-- ---- a run

module _ (ev : List Event) (s : State) (p : Depth) where
  pub depth-start : depth_from ev s p 0 ≡ p
  unfolding depth_from
  depth-start = refl

  -- the state t that n steps have reached, its next act, and the depth after it
  pub depth-next : (n : ℕ) (t : State) → t ≡ (run_of ev s n).state
      → depth_from ev s p (n + 1) ≡ depth_after (next_act ev t) (depth_from ev s p n)
  unfolding depth_from
  depth-next n t e =
      ap (depth_from ev s p) (add-one n) ∙ ap (λ u. depth_after (next_act ev u) (depth_from ev s p n)) (sym e)

  -- m steps, and then n from the state reached at the depth reached, are m + n steps
  pub depth-append : (m n : ℕ) → depth_from ev s p (m + n) ≡ depth_from ev (run_of ev s m).state (depth_from ev s p m) n
  unfolding depth_from
  depth-append m zero = ap (depth_from ev s p) (add-zero m)
  depth-append m (suc n) =
      ap (depth_from ev s p) (add-suc m n)
      ∙ ap (λ r. depth_after (next_act ev r.state) (depth_from ev s p (m + n))) (run-append ev s m n)
      ∙ ap (depth_after (next_act ev (run_of ev (run_of ev s m).state n).state)) (depth-append m n)

  -- uneventful steps leave it
  pub uneventful-depth : (n : ℕ) → Uneventful ev s n → depth_from ev s p n ≡ p
  unfolding depth_from
  uneventful-depth zero f = refl
  uneventful-depth (suc n) f =
      uneventful-after (next_act ev (run_of ev s n).state) (depth_from ev s p n) (f n (omega arith))
      ∙ uneventful-depth n (λ i h. f i (omega arith))

  -- no more frames than steps are opened
  pub open-le : (n : ℕ) → (depth_from ev s p n).opened ≤ p.opened + n
  unfolding depth_from
  open-le zero = omega arith
  open-le (suc n) =
      let h = open_step (next_act ev (run_of ev s n).state) (depth_from ev s p n) in
      let l = open-le n in
      omega arith

module _ (ev : List Event) (s : State) (p : Depth) where
  -- a stretch from the state t that n steps have reached
  pub depth-stretch : (n j : ℕ) (t : State) → t ≡ (run_of ev s n).state → Uneventful ev t j
      → depth_from ev s p (n + j) ≡ depth_from ev s p n
  depth-stretch n j t e f =
      depth-append ev s p n j
      ∙ ap (λ u. depth_from ev u (depth_from ev s p n) j) (sym e)
      ∙ uneventful-depth ev t (depth_from ev s p n) j f

  -- Slices over a log: the depth at the steps of a first run of n with room for k records, carried over the steps of the run that
  -- goes on from it, is that of the one run of N with room for K, at its own steps.
  pub depth-slices : (k n K N : ℕ) → length (run_logged ev s k n).records ≤ K → (run_logged ev s k n).steps ≤ N
      → depth_from ev (run_logged ev s k n).state (depth_from ev s p (run_logged ev s k n).steps)
      (run_logged ev (run_logged ev s k n).state (K - length (run_logged ev s k n).records) (N - (run_logged ev s k n).steps)).steps
      ≡ depth_from ev s p (run_logged ev s K N).steps
  depth-slices k n K N w h =
      let x = run_logged ev s k n in
      let y = run_logged ev x.state (K - length x.records) (N - x.steps) in
      ap (λ t. depth_from ev t (depth_from ev s p x.steps) y.steps) (ap (λ r. r.state) (logged-run ev s k n))
      ∙ sym (depth-append ev s p x.steps y.steps)
      ∙ sym (ap (λ z. depth_from ev s p z.steps) (logged-slices ev s k K n N w h))

  -- a slice from the state t and the depth q that j steps have reached
  pub depth-slice : (j i : ℕ) (t : State) (q : Depth) → ran t j ≡ run_of ev s j → q ≡ depth_from ev s p j
      → depth_from ev t q i ≡ depth_from ev s p (j + i)
  depth-slice j i t q e f =
      (λ x. depth_from ev (e x).state (f x) i) ∙ sym (depth-append ev s p j i)

-- ---- the run call

pub accepted-deepest : (memory r events log : List ℕ) (n number : ℕ) → call_verdict memory r events log n ≡ Ok tt
    → call_deepest memory r events log n number
    ≡ deepest_from (events_of events) (state_in r memory) (run_on memory r events log n).steps
unfolding call_deepest
accepted-deepest memory r events log n number e =
    ap (λ v. cond (accepted? v) (deepest_from (events_of events) (state_in r memory) (run_on memory r events log n).steps) number) e

pub refused-deepest : (memory r events log : List ℕ) (n number : ℕ) → accepted? (call_verdict memory r events log n) ≡ false
    → call_deepest memory r events log n number ≡ number
unfolding call_deepest
refused-deepest memory r events log n number h =
    ap (λ b. cond b (deepest_from (events_of events) (state_in r memory) (run_on memory r events log n).steps) number) h

-- ---- examples

abbrev over : List Act → Depth → Depth
over [] p = p
over (a ∷ l) p = over l (depth_after a p)

-- a trap, a line accepted, three returns, the last with none open, and a trap again: one open, two at the most
none_open : over (act.Trap 3 ∷ act.Accept 1 ∷ act.Pull ∷ act.Pull ∷ act.Pull ∷ act.Trap 2 ∷ []) (depth 0 0) ≡ depth 1 2
none_open = refl

-- a chained entry keeps its frame, and a fault that halts opens none
chained-once : over (act.Fault 8 ∷ act.Chain 2 ∷ act.Chain 1 ∷ act.Halt ∷ []) (depth 0 0) ≡ depth 1 1
chained-once = refl
