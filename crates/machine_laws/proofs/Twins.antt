-- The rule on twins is broken exactly where two records of the list share step and device, wherever they stand in it.
-- Assumes nothing.
use Prim.Native.Nat.{ℕ, zero, suc, ◌<◌, ◌≤◌}
use native.Mathlib.Omega.{arith}
use mathlib.Core.Bool.{Bool, true, false, ◌&&◌, ◌||◌, or-true, false≢true}
use mathlib.Core.List.{List}
use mathlib.Core.Logic.{◌≢◌}
use mathlib.Core.Path.{◌≡◌, refl, sym, ap, subst, ◌∙◌}
use lib.Dec.{eqb, ltb}
use Rattle.machine.specs.Events.{event_at}
use Rattle.machine.specs.Refusal.{event_below, twins_below}
use Rattle.machine_laws.specs.Twins.{Twins}
use Rattle.machine_laws.proofs.Cases.{bool_cases, eq_of, is_eq, not-eq, lt_of, ge-of, and_left, and_right, and_both}

or_left : {a : Bool} (b : Bool) → a ≡ true → a || b ≡ true
or_left b e = ap (λ x. x || b) e

or_right : (a : Bool) {b : Bool} → b ≡ true → a || b ≡ true
or_right a e = ap (λ x. a || x) e ∙ or-true a

module _ (b : List ℕ) where
  abbrev same : (k s d : ℕ) → Bool
  same k s d = eqb (event_at b k).step s && eqb (event_at b k).device d

  -- a record below n of this step and this device is found
  pub event-met : (s d n j : ℕ) → j < n → (event_at b j).step ≡ s → (event_at b j).device ≡ d → event_below b s d n ≡ true
  unfolding event_below
  event-met s d zero j h e f = absurd (omega arith)
  event-met s d (suc n) j h e f =
      bool_cases (ltb j n)
      (λ q. or_left (same n s d) (event-met s d n j (lt_of q) e f)) (λ q.
      let g : n ≤ j = ge-of q in
      let w : j ≡ n = omega arith in
      or_right (event_below b s d n) (subst (λ i. same i s d ≡ true) w (and_both (is_eq e) (is_eq f))))

  -- where every record below n is of another step, none is found
  pub event-unmet : (s d n : ℕ) → ((j : ℕ) → j < n → (event_at b j).step ≢ s) → event_below b s d n ≡ false
  unfolding event_below
  event-unmet s d zero h = refl
  event-unmet s d (suc n) h = rw (event-unmet s d n (λ j l. h j (omega arith)), not-eq (h n (omega arith)))

  pub twins-none : twins_below b 0 ≡ false
  unfolding twins_below
  twins-none = refl

  -- one record more
  pub twins-next : (n : ℕ) → twins_below b n ≡ false
      → twins_below b (suc n) ≡ event_below b (event_at b n).step (event_at b n).device n
  unfolding twins_below
  twins-next n e = ap (λ x. x || event_below b (event_at b n).step (event_at b n).device n) e

  pub twins-longer : (k n : ℕ) → k ≤ n → twins_below b k ≡ true → twins_below b n ≡ true
  unfolding twins_below
  twins-longer k zero h e = let p : k ≡ 0 = omega arith in subst (λ i. twins_below b i ≡ true) p e
  twins-longer k (suc n) h e =
      bool_cases (ltb n k)
      (λ q. let l : n < k = lt_of q in let p : k ≡ suc n = omega arith in subst (λ i. twins_below b i ≡ true) p e)
      (λ q. or_left (event_below b (event_at b n).step (event_at b n).device n) (twins-longer k n (ge-of q) e))

  -- two records of one step and one device are twins, wherever they stand
  pub twins-met : (n : ℕ) → Twins b n → twins_below b n ≡ true
  unfolding twins_below
  twins-met n t =
      twins-longer (suc t.other) n t.within
      (or_right (twins_below b t.other)
      (event-met (event_at b t.other).step (event_at b t.other).device t.other t.one t.before t.step t.device))

  -- and where twins are told of, there are two such records
  found_at : (k n : ℕ) → k < n → (m : ℕ) → m ≤ k → event_below b (event_at b k).step (event_at b k).device m ≡ true → Twins b n
  unfolding event_below
  found_at k n h zero l e = absurd (false≢true e)
  found_at k n h (suc m) l e =
      let s = (event_at b k).step in
      let d = (event_at b k).device in
      bool_cases (event_below b s d m)
      (λ q. found_at k n h m (omega arith) q) (λ q.
      let f : same m s d ≡ true = sym (ap (λ x. x || same m s d) q) ∙ e in
      record {
        one = m;
        other = k;
        before = l;
        within = h;
        step = eq_of (and_left (eqb (event_at b m).step s) (eqb (event_at b m).device d) f);
        device = eq_of (and_right (eqb (event_at b m).step s) (eqb (event_at b m).device d) f);
      })

  wider : (m n : ℕ) → m ≤ n → Twins b m → Twins b n
  wider m n h t =
      let w = t.within in
      record { one = t.one; other = t.other; before = t.before; within = omega arith; step = t.step; device = t.device }

  pub twins-found : (n : ℕ) → twins_below b n ≡ true → Twins b n
  unfolding twins_below
  twins-found zero e = absurd (false≢true e)
  twins-found (suc n) e =
      let last = event_below b (event_at b n).step (event_at b n).device n in
      bool_cases (twins_below b n)
      (λ q. wider n (suc n) (omega arith) (twins-found n q))
      (λ q. found_at n (suc n) (omega arith) n (omega arith) (sym (ap (λ x. x || last) q) ∙ e))
