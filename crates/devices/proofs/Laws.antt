-- The law that the engine's index into the event list rests on.
--
-- The machine as defined looks through the whole list at each step k, applies the records whose step is k and passes
-- over the others (`deliver_at k (events_of b)`). The engine keeps an index instead, and looks only at the records from
-- there on (`deliver_at k (rest_from b at)`). Over a list whose steps never fall the two are the same:
--   index-start   records before the index, all of steps below k, need not be looked at;
--   index-due     a record of step k is applied, and the index moves on;
--   index-early   a record of a step below k is passed over, and the index moves on;
--   index-later   at a record of a step above k, nothing more is to be applied;
--   index-end     nor is anything at the list's end;
--   index-none-due   so, while the record at the index is of a later step, step k has no event.
-- `behind-next` and `behind-later` say that the index stays good for the steps that follow.
-- Assumes nothing.
use Prim.Native.Nat.{ℕ, zero, suc, ◌+◌, ◌-◌, ◌*◌, ◌≤◌, ◌<◌}
use mathlib.Core.Path.{◌≡◌, sym, ap, ◌∙◌}
use mathlib.Core.Bool.{Bool, true, cond, and-eq-true_iff}
use mathlib.Core.List.{List}
use mathlib.Core.Logic.{⊎_elim}
use native.Mathlib.Omega.{arith}
use native.Mathlib.Nat.{le_trans}
use lib.Dec.{eqb, ltb}
use borrow.Author.Count.{below_more}
use borrow.Author.Tests.{eq-eqb, ne_eqb, ltb-true, leb-true}
use Rattle.word.proofs.Laws.{order}
use Rattle.machine.specs.State.{State}
use Rattle.machine.specs.Memory.{byte_at}
use Rattle.machine.specs.Events.{Event, event_at, events_from, event_count, events_of}
use Rattle.machine.specs.Devices.{event_on, deliver_at}
use Rattle.machine.specs.Refusal.{event_fits, events_fit_below, in_order, in_order_below}
use Rattle.devices.specs.Cursor.{Behind, Ordered}

-- ---- what an accepted list gives: each record's device, and steps that never fall

pub device-lt : (b : List ℕ) (n k : ℕ) → events_fit_below b n ≡ true → k < n → byte_at b (8 * k + 4) < 8
unfolding events_fit_below event_fits
device-lt b zero k f h = let z : ⊥ = omega arith in elim z [ ]
device-lt b (suc n) k f h =
    let p = (and-eq-true_iff (events_fit_below b n) (event_fits b n)).0 f in
    ⊎_elim
    (λ (l : n ≤ k).
    let e : k ≡ n = omega arith in
    rw e (ltb-true (byte_at b (8 * n + 4)) 8 ((and-eq-true_iff (ltb (byte_at b (8 * n + 4)) 8) _).0 p.1).0))
    (λ (l : k < n). device-lt b n k p.0 l) (order n k)

-- the step of record j
abbrev pub step_at : List ℕ → ℕ → ℕ
step_at b j = (event_at b j).step

step-next : (b : List ℕ) (n k : ℕ) → in_order_below b n ≡ true → suc k < n → step_at b k ≤ step_at b (suc k)
unfolding in_order_below in_order
step-next b zero k o h = let z : ⊥ = omega arith in elim z [ ]
step-next b (suc zero) k o h = let z : ⊥ = omega arith in elim z [ ]
step-next b (suc (suc n)) k o h =
    let p = (and-eq-true_iff (in_order_below b (suc n)) (in_order b n)).0 o in
    ⊎_elim
    (λ (l : n ≤ k).
    let e : k ≡ n = omega arith in
    rw e (leb-true (step_at b n) (step_at b (suc n)) p.1))
    (λ (l : k < n). step-next b (suc n) k p.0 (omega arith)) (order n k)

step-later : (b : List ℕ) (n i d : ℕ) → in_order_below b n ≡ true → i + d < n → step_at b i ≤ step_at b (i + d)
step-later b n i zero o h = let e : i + 0 ≡ i = omega arith in rw e (omega arith)
step-later b n i (suc d) o h =
    let e : i + suc d ≡ suc (i + d) = omega arith in
    rw e (le_trans (step-later b n i d o (omega arith)) (step-next b n (i + d) o (omega arith)))

pub step-le : (b : List ℕ) (i j : ℕ) → Ordered b → i ≤ j → j < event_count b → step_at b i ≤ step_at b j
step-le b i j o l h =
    let e : i + (j - i) ≡ j = omega arith in
    rw e at (step-later b (event_count b) i (j - i) o (rw e h))

-- ---- the index

-- the records from `at` on
abbrev pub rest_from : List ℕ → ℕ → List Event
rest_from b at = events_from b at (event_count b - at)

module _ (b : List ℕ) (k : ℕ) where
  -- a record of another step is passed over, and so are n of them
  skip-one :
      (at n : ℕ) (s : State) → (step_at b at ≡ k → ⊥) → deliver_at k (events_from b at (suc n)) s
      ≡ deliver_at k (events_from b (suc at) n) s
  unfolding events_from deliver_at
  skip-one at n s h =
      ap (λ (x : Bool). deliver_at k (events_from b (suc at) n) (cond x (event_on (event_at b at) s) s)) (ne_eqb (step_at b at) k h)

  skip :
      (at n m : ℕ) (s : State) → ((j : ℕ) → at ≤ j → j < at + n → step_at b j ≡ k → ⊥) →
      deliver_at k (events_from b at (m + n)) s ≡ deliver_at k (events_from b (at + n) m) s
  skip at zero m s h =
      let e : at + 0 ≡ at = omega arith in
      let f : m + 0 ≡ m = omega arith in
      rw (e, f)
  skip at (suc n) m s h =
      let e : suc at + n ≡ at + suc n = omega arith in
      let f : m + suc n ≡ suc (m + n) = omega arith in
      ap (λ (x : ℕ). deliver_at k (events_from b at x) s) f
      ∙ skip-one at (m + n) s (h at (omega arith) (omega arith))
      ∙ skip (suc at) n m s (λ j l u. h j (omega arith) (omega arith))
      ∙ ap (λ (x : ℕ). deliver_at k (events_from b x m) s) e

  none : (at : ℕ) (s : State) → ((j : ℕ) → at ≤ j → j < event_count b → step_at b j ≡ k → ⊥) → deliver_at k (rest_from b at) s ≡ s
  unfolding events_from deliver_at
  none at s h =
      let e : event_count b - at ≡ 0 + (event_count b - at) = omega arith in
      ap (λ (x : ℕ). deliver_at k (events_from b at x) s) e
      ∙ skip at (event_count b - at) 0 s (λ j l u. h j l (omega arith))

  pub index-start : (next : ℕ) (s : State) → Behind b next k → deliver_at k (rest_from b next) s ≡ deliver_at k (events_of b) s
  index-start next s h =
      let e : event_count b - next + next ≡ event_count b = omega (arith, h.0) in
      let z : 0 + next ≡ next = omega arith in
      sym (rw (e, z) at (skip 0 next (event_count b - next) s (λ j l u q. omega (arith, h.1 j (rw z at u), q))))

  -- one record: what is left from `at` on is that record, and then what is left after it
  turn :
      (at : ℕ) (s : State) → at < event_count b →
      deliver_at k (rest_from b at) s ≡ deliver_at k (rest_from b (at + 1)) (cond (eqb (step_at b at) k) (event_on (event_at b at) s) s)
  unfolding events_from deliver_at
  turn at s h =
      let e : event_count b - at ≡ suc (event_count b - (at + 1)) = omega arith in
      let f : suc at ≡ at + 1 = omega arith in
      let t : State = cond (eqb (step_at b at) k) (event_on (event_at b at) s) s in
      ap (λ (x : ℕ). deliver_at k (events_from b at x) s) e
      ∙ ap (λ (x : ℕ). deliver_at k (events_from b x (event_count b - (at + 1))) t) f

  pub index-due :
      (at : ℕ) (s : State) → at < event_count b → step_at b at ≡ k →
      deliver_at k (rest_from b at) s ≡ deliver_at k (rest_from b (at + 1)) (event_on (event_at b at) s)
  index-due at s h e = rw (eq-eqb (step_at b at) k e) at (turn at s h)

  -- a record of step k, applied
  pub index-applied :
      (at : ℕ) (s : State) {t : State} → at < event_count b → step_at b at ≡ k →
      t ≡ event_on (event_at b at) s →
      deliver_at k (rest_from b (at + 1)) t ≡ deliver_at k (rest_from b at) s
  index-applied at s h e q = ap (deliver_at k (rest_from b (at + 1))) q ∙ sym (index-due at s h e)

  pub index-early :
      (at : ℕ) (s : State) → at < event_count b → step_at b at < k →
      deliver_at k (rest_from b at) s ≡ deliver_at k (rest_from b (at + 1)) s
  index-early at s h l = rw (ne_eqb (step_at b at) k (λ q. omega arith)) at (turn at s h)

  pub index-later : (at : ℕ) (s : State) → Ordered b → at < event_count b → k < step_at b at → deliver_at k (rest_from b at) s ≡ s
  index-later at s o h l = none at s (λ j g u q. omega (arith, step-le b at j o g u))

  pub index-end : (at : ℕ) (s : State) → event_count b ≤ at → deliver_at k (rest_from b at) s ≡ s
  index-end at s h = none at s (λ j g u q. omega arith)

  pub index-none-due :
      (next : ℕ) (s : State) → Ordered b → Behind b next k → (next < event_count b → k < step_at b next) → deliver_at k (events_of b) s ≡ s
  index-none-due next s o p l =
      sym (index-start next s p)
      ∙ ⊎_elim
      (λ (e : event_count b ≤ next). index-end next s e) (λ (h : next < event_count b). index-later next s o h (l h))
      (order (event_count b) next)

  -- a record of a step not above k is behind the step after k
  pub behind-next : (at : ℕ) → Behind b at (k + 1) → at < event_count b → step_at b at ≤ k → Behind b (at + 1) (k + 1)
  behind-next at p h l = (omega arith, below_more (λ (j : ℕ). step_at b j < k + 1) at p.1 (omega arith))

pub behind-later : (b : List ℕ) (next j k : ℕ) → j ≤ k → Behind b next j → Behind b next k
behind-later b next j k l p = (p.0, λ i h. le_trans (p.1 i h) l)
