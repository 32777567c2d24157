-- The events of a step from an index on, as their records: one that is due adds one, one that is earlier is passed over, and from a
-- later one on none is due, since the list is in order. Assumes nothing.
use Prim.Native.Nat.{ℕ, zero, suc, ◌+◌, ◌-◌, ◌*◌, ◌<◌, ◌≤◌}
use Rattle.word.proofs.Laws.{order}
use native.Mathlib.Omega.{arith}
use mathlib.Core.Bool.{Bool, cond}
use mathlib.Core.List.{List, [], ◌∷◌}
use mathlib.Core.Logic.{⊎_elim}
use mathlib.Core.Path.{◌≡◌, sym, ap, ◌∙◌}
use lib.Dec.{eqb}
use lib.ListN.{length}
use lib.Seq.{sets}
use Rattle.machine.specs.State.{State}
use Rattle.machine.specs.Events.{event_at, events_from, event_count, events_of}
use Rattle.machine_laws.proofs.Cases.{is_eq, not-eq}
use Rattle.devices.specs.Cursor.{Behind, Ordered}
use Rattle.devices.proofs.Laws.{step_at, rest_from, step-le}
use Rattle.stores.proofs.Laws.{sets_then}
use Rattle.trace.specs.Trace.{event_entry, entry_bytes, trace_bytes}
use Rattle.trace.specs.Before.{events_before}

module _ (s : State) (b : List ℕ) (k : ℕ) where
  skip-one : (at n : ℕ) → (step_at b at ≡ k → ⊥) → events_before s k (events_from b at (suc n))
      ≡ events_before s k (events_from b (suc at) n)
  unfolding events_from events_before
  skip-one at n h =
      let later = events_before s k (events_from b (suc at) n) in
      ap (λ (x : Bool). cond x (event_entry s s (event_at b at) ∷ later) later) (not-eq h)

  skip : (at n m : ℕ) → ((j : ℕ) → at ≤ j → j < at + n → step_at b j ≡ k → ⊥)
      → events_before s k (events_from b at (m + n)) ≡ events_before s k (events_from b (at + n) m)
  skip at zero m h =
      let e : at + 0 ≡ at = omega arith in
      let f : m + 0 ≡ m = omega arith in
      rw (e, f)
  skip at (suc n) m h =
      let e : suc at + n ≡ at + suc n = omega arith in
      let f : m + suc n ≡ suc (m + n) = omega arith in
      ap (λ (x : ℕ). events_before s k (events_from b at x)) f
      ∙ skip-one at (m + n) (h at (omega arith) (omega arith))
      ∙ skip (suc at) n m (λ j l u. h j (omega arith) (omega arith))
      ∙ ap (λ (x : ℕ). events_before s k (events_from b x m)) e

  none : (at : ℕ) → ((j : ℕ) → at ≤ j → j < event_count b → step_at b j ≡ k → ⊥) → events_before s k (rest_from b at) ≡ []
  unfolding events_from events_before
  none at h =
      let e : event_count b - at ≡ 0 + (event_count b - at) = omega arith in
      ap (λ (x : ℕ). events_before s k (events_from b at x)) e
      ∙ skip at (event_count b - at) 0 (λ j l u. h j l (omega arith))

  pub index-start : (next : ℕ) → Behind b next k → events_before s k (rest_from b next) ≡ events_before s k (events_of b)
  index-start next h =
      let e : event_count b - next + next ≡ event_count b = omega (arith, h.0) in
      let z : 0 + next ≡ next = omega arith in
      sym (rw (e, z) at (skip 0 next (event_count b - next) (λ j l u q. omega (arith, h.1 j (rw z at u), q))))

  turn : (at : ℕ) → at < event_count b
      → events_before s k (rest_from b at)
      ≡ cond (eqb (step_at b at) k) (event_entry s s (event_at b at) ∷ events_before s k (rest_from b (at + 1)))
      (events_before s k (rest_from b (at + 1)))
  unfolding events_from events_before
  turn at h =
      let e : event_count b - at ≡ suc (event_count b - (at + 1)) = omega arith in
      let f : suc at ≡ at + 1 = omega arith in
      ap (λ (x : ℕ). events_before s k (events_from b at x)) e
      ∙ ap (λ (x : ℕ). cond (eqb (step_at b at) k)
      (event_entry s s (event_at b at) ∷ events_before s k (events_from b x (event_count b - (at + 1))))
      (events_before s k (events_from b x (event_count b - (at + 1))))) f

  pub index-due : (at : ℕ) → at < event_count b → step_at b at ≡ k
      → events_before s k (rest_from b at) ≡ event_entry s s (event_at b at) ∷ events_before s k (rest_from b (at + 1))
  index-due at h e = rw (is_eq e) at (turn at h)

  pub index-early : (at : ℕ) → at < event_count b → (step_at b at ≡ k → ⊥)
      → events_before s k (rest_from b at) ≡ events_before s k (rest_from b (at + 1))
  index-early at h e = rw (not-eq e) at (turn at h)

  pub index-later : (at : ℕ) → Ordered b → at < event_count b → k < step_at b at → events_before s k (rest_from b at) ≡ []
  index-later at o h l = none at (λ j g u q. omega (arith, step-le b at j o g u))

  pub index-end : (at : ℕ) → event_count b ≤ at → events_before s k (rest_from b at) ≡ []
  index-end at h = none at (λ j g u q. omega arith)

  pub index-none : (next : ℕ) → Ordered b → Behind b next k → (next < event_count b → k < step_at b next)
      → events_before s k (events_of b) ≡ []
  index-none next o p l =
      sym (index-start next p)
      ∙ ⊎_elim
      (λ (e : event_count b ≤ next). index-end next e)
      (λ (h : next < event_count b). index-later next o h (l h))
      (order (event_count b) next)

  -- ---- the count

  abbrev left : ℕ → ℕ
  left at = length (events_before s k (rest_from b at))

  pub count-due : (at due all : ℕ) → at < event_count b → step_at b at ≡ k → due + left at ≡ all → due + 1 + left (at + 1) ≡ all
  count-due at due all h e q = let l = ap length (index-due at h e) in omega (arith, l, q)

  pub count-early : (at due all : ℕ) → at < event_count b → (step_at b at ≡ k → ⊥) → due + left at ≡ all → due + left (at + 1) ≡ all
  count-early at due all h e q = let l = ap length (index-early at h e) in omega (arith, l, q)

  -- a record that is due has room where all have
  pub room-due : (at due first size : ℕ) → at < event_count b → step_at b at ≡ k
      → due + left at ≡ first + length (events_before s k (events_of b)) → 16 * (first + length (events_before s k (events_of b))) ≤ size
      → 16 * due + 16 ≤ size
  room-due at due first size h e q r = let l = ap length (index-due at h e) in omega (arith, l, q, r)

  -- ---- the records

  -- what writing the rest from here gives
  abbrev pub rest : (m : List ℕ) → (added at : ℕ) → List ℕ
  rest m added at = sets m (16 * added) (trace_bytes (events_before s k (rest_from b at)))

  pub write-due : (m m' all : List ℕ) (added at : ℕ) → at < event_count b → step_at b at ≡ k
      → m' ≡ sets m (16 * added) (entry_bytes (event_entry s s (event_at b at))) → rest m added at ≡ all → rest m' (added + 1) (at + 1)
      ≡ all
  unfolding trace_bytes
  write-due m m' all added at h e w q =
      let x = event_entry s s (event_at b at) in
      let ys = trace_bytes (events_before s k (rest_from b (at + 1))) in
      let j : 16 * (added + 1) ≡ 16 * added + 16 = omega arith in
      ap (λ z. sets z (16 * (added + 1)) ys) w
      ∙ sets_then m (16 * added) (16 * (added + 1)) (entry_bytes x) ys j
      ∙ sym (ap (λ xs. sets m (16 * added) (trace_bytes xs)) (index-due at h e))
      ∙ q

  pub write-early : (m all : List ℕ) (added at : ℕ) → at < event_count b → (step_at b at ≡ k → ⊥) → rest m added at ≡ all
      → rest m added (at + 1) ≡ all
  write-early m all added at h e q = sym (ap (λ xs. sets m (16 * added) (trace_bytes xs)) (index-early at h e)) ∙ q

  pub write-end : (m all : List ℕ) (added at : ℕ) → events_before s k (rest_from b at) ≡ [] → rest m added at ≡ all → m ≡ all
  unfolding trace_bytes
  write-end m all added at e q = sym (ap (λ xs. sets m (16 * added) (trace_bytes xs)) e) ∙ q
