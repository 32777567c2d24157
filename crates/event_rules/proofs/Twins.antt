-- One pass over a list in order finds what the definition finds: `Swept` is what the pass holds before record k, and the
-- laws follow it from turn to turn. Assumes nothing.
use Prim.Native.Nat.{ℕ, suc, ◌+◌, ◌*◌, ◌^◌, ◌<◌, ◌≤◌}
use mathlib.Core.Bool.{true, false, cond, ◌&&◌, ◌||◌, or-true, or-false, and-false}
use mathlib.Core.List.{List}
use mathlib.Core.Logic.{◌≢◌}
use mathlib.Core.Path.{◌≡◌, refl, sym, ap, subst, ◌∙◌}
use native.Mathlib.Omega.{arith}
use native.Mathlib.Nat.{zero-div}
use lib.Dec.{eqb, ltb}
use Rattle.word.specs.Psw.{bit_of, put_bit}
use Rattle.word.proofs.Laws.{put_same, put_other}
use Rattle.machine.specs.Memory.{byte_at}
use Rattle.machine.specs.Events.{event_at, event_count}
use Rattle.machine.specs.Refusal.{event_below, twins_below}
use Rattle.machine_laws.proofs.Cases.{bool_cases, eq_of, neq-of, is_eq, not-eq, lt_of, ge-of, and_both}
use Rattle.machine_laws.proofs.Twins.{event-unmet, twins-none, twins-next, twins-longer}
use Rattle.devices.specs.Cursor.{Ordered}
use Rattle.devices.proofs.Laws.{step-le}

-- No twins so far; the records passed are of step s or of steps before it, those to come of it or of steps after it; and the
-- mark of a device is set where one of the records passed is of step s and of that device.
pub record Swept (b : List ℕ) (k s marks : ℕ) : Type 0 where
  pub within : k ≤ event_count b
  pub none : twins_below b k ≡ false
  pub behind : (j : ℕ) → j < k → (event_at b j).step ≤ s
  pub ahead : (j : ℕ) → k ≤ j → j < event_count b → s ≤ (event_at b j).step
  pub marked : (d : ℕ) → bit_of d marks ≡ event_below b s d k

unmarked : (d : ℕ) → bit_of d 0 ≡ false
unmarked d = rw (zero-div (2 ^ d))

pub device_at : (b : List ℕ) (k : ℕ) → byte_at b (8 * k + 4) ≡ (event_at b k).device
unfolding event_at
device_at b k = refl

module _ (b : List ℕ) where
  pub sweep-start : Swept b 0 0 0
  unfolding event_below
  sweep-start =
      record {
        within = omega arith;
        none = twins-none b;
        behind = λ j h. absurd (omega arith);
        ahead = λ j h l. omega arith;
        marked = unmarked;
      }

  module _ {k s m t m' : ℕ} (w : Swept b k s m) (h : k < event_count b) (e : t ≡ (event_at b k).step) (f : m' ≡ cond (ltb s t) 0 m) where
    rises : s ≤ t
    rises = let a = w.ahead k (omega arith) h in omega arith

    -- the marks once they are those of record k's step
    pub sweep-marks : (d : ℕ) → bit_of d m' ≡ event_below b t d k
    sweep-marks d =
        bool_cases (ltb s t)
        (λ q.
        let l : s < t = lt_of q in
        let other : (j : ℕ) → j < k → (event_at b j).step ≢ t = λ j i c. let x = w.behind j i in omega arith in
        ap (bit_of d) (f ∙ ap (λ x. cond x 0 m) q) ∙ unmarked d ∙ sym (event-unmet b t d k other))
        (λ q.
        let l : t ≤ s = ge-of q in
        let r : s ≤ t = rises in
        let same : s ≡ t = omega arith in
        ap (bit_of d) (f ∙ ap (λ x. cond x 0 m) q) ∙ w.marked d ∙ ap (λ x. event_below b x d k) same)

    -- whether record k is a twin is its device's mark
    pub sweep-turn : (d : ℕ) → d ≡ (event_at b k).device → twins_below b (suc k) ≡ bit_of d m'
    sweep-turn d g =
        twins-next b k w.none
        ∙ sym (λ i. event_below b (e i) (g i) k)
        ∙ sym (sweep-marks d)

    pub sweep-twin : (d : ℕ) → d ≡ (event_at b k).device → bit_of d m' ≡ true → twins_below b (event_count b) ≡ true
    sweep-twin d g c = twins-longer b (suc k) (event_count b) h (sweep-turn d g ∙ c)

    -- the marks with record k's
    next_marks : (d x : ℕ) → d ≡ (event_at b k).device → bit_of x (put_bit d m' true) ≡ event_below b t x (suc k)
    unfolding event_below
    next_marks d x g =
        let due = eqb (event_at b k).step t in
        let old = event_below b t x k in
        bool_cases (eqb x d)
        (λ q.
        let own : due && eqb (event_at b k).device x ≡ true = and_both (is_eq (sym e)) (is_eq (sym g ∙ sym (eq_of q))) in
        ap (λ y. bit_of y (put_bit d m' true)) (eq_of q) ∙ put_same d m' true ∙ sym (ap (λ y. old || y) own ∙ or-true old))
        (λ q.
        let other : x ≢ d = neq-of q in
        let none : due && eqb (event_at b k).device x ≡ false =
        ap (λ y. due && y) (not-eq (λ c. other (sym c ∙ sym g))) ∙ and-false due in
        put_other x d m' true other ∙ sweep-marks x ∙ sym (ap (λ y. old || y) none ∙ or-false old))

    pub sweep-next : Ordered b → (d : ℕ) → d ≡ (event_at b k).device → bit_of d m' ≡ false → Swept b (suc k) t (put_bit d m' true)
    sweep-next o d g c =
        record {
          within = h;
          none = sweep-turn d g ∙ c;
          behind = λ j l.
              bool_cases (ltb j k)
              (λ q. let x = w.behind j (lt_of q) in let r = rises in omega arith)
              (λ q. let i : k ≤ j = ge-of q in let p : k ≡ j = omega arith in subst (λ y. (event_at b y).step ≤ t) p (omega arith));
          ahead = λ j l u. let x = step-le b k j o (omega arith) u in omega arith;
          marked = λ x. next_marks d x g;
        }

  pub sweep-end : {k s m : ℕ} → Swept b k s m → event_count b ≤ k → false ≡ twins_below b (event_count b)
  sweep-end {k} w h = let l = w.within in let e : k ≡ event_count b = omega arith in sym w.none ∙ ap (twins_below b) e
