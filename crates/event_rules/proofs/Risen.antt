-- A list whose records fit and rise, each of a later step than the one before it, is in order and has no twins. Assumes nothing.
use Prim.Native.Nat.{ℕ, zero, suc, ◌+◌, ◌<◌, ◌≤◌}
use mathlib.Core.Bool.{true, false}
use mathlib.Core.List.{List}
use mathlib.Core.Path.{◌≡◌, refl, sym}
use native.Mathlib.Omega.{arith}
use borrow.Author.Tests.{ne_eqb, le-leb}
use Rattle.machine.specs.Events.{event_at}
use Rattle.machine.specs.Refusal.{event_fits, events_fit_below, in_order, in_order_below, event_below, twins_below}
use Rattle.machine_laws.proofs.Cases.{and_both}
use Rattle.event_rules.proofs.Laws.{fits-none, fits_next}

-- the first k records fit and rise, and their steps are below `least`
pub record Risen (b : List ℕ) (k least : ℕ) : Type 0 where
  pub fits : events_fit_below b k ≡ true
  pub order : in_order_below b k ≡ true
  pub twins : twins_below b k ≡ false
  pub fresh : (s d : ℕ) → least ≤ s → event_below b s d k ≡ false
  pub last : (j : ℕ) → k ≡ suc j → (event_at b j).step < least

module _ (b : List ℕ) where
  pub risen-none : Risen b 0 0
  unfolding in_order_below twins_below event_below
  risen-none = record { fits = fits-none b; order = refl; twins = refl; fresh = λ s d h. refl; last = λ j e. absurd (omega arith) }

  in_order-next : (k : ℕ) → in_order_below b k ≡ true → ((j : ℕ) → k ≡ suc j → (event_at b j).step ≤ (event_at b k).step) →
      in_order_below b (suc k) ≡ true
  unfolding in_order_below in_order
  in_order-next zero h f = refl
  in_order-next (suc j) h f = and_both h (le-leb (event_at b j).step (event_at b (suc j)).step (f j refl))

  pub risen-next : (k least s : ℕ) → Risen b k least → event_fits b k ≡ true → s ≡ (event_at b k).step → least ≤ s → Risen b (suc k) (s + 1)
  unfolding twins_below event_below
  risen-next k least s r f e h = record {
    fits = fits_next b k r.fits f;
    order = in_order-next k r.order (λ j q. let g = r.last j q in omega arith);
    twins = rw (r.twins, sym e, r.fresh s (event_at b k).device h) refl;
    fresh = λ t d g. rw (r.fresh t d (omega arith), sym e, ne_eqb s t (λ q. omega arith)) refl;
    last = λ j q. let i : k ≡ j = omega arith in rw (sym i, sym e) (omega arith);
  }
