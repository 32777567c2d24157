-- The invariant is `Risen`: every record passed fits, and is of a later step than those before it. Assumes nothing.
use mathlib.Core.Bool.{false≢true}
use mathlib.Core.Path.{◌≡◌, sym, subst, ◌∙◌}
use native.Mathlib.Omega.{arith}
use native.Mathlib.Numerals.{add-one}
use borrow.Author.Tests.{not-false}
use Rattle.machine.specs.Events.{event_count}
use Rattle.event_rules.proofs.Risen.{Risen, risen-none, risen-next}
use Rattle.event_rules.proofs.rising.Goals as goal

pub loop-k-preserved : goal.loop-k-preserved
loop-k-preserved c =
    let s = c in
    let f = s in
    let l = f.loop-k in
    let b = f.args.events.now in
    let fits = sym f.event_fits.ensures ∙ not-false _ s.if-not-event_fits.false-raw in (
      omega arith,
      rw (add-one l.k) (risen-next b l.k l.least _ l.invariant.1 fits s.step_at-step.ensures
          c.if-step-least.false),
    )

pub returns : goal.returns
returns c =
    let b = c.args.events.now in
    let l = c.loop-k in
    let e : l.k ≡ event_count b = omega arith in
    let r = subst (λ n. Risen b n l.least) e l.invariant.1 in
    λ q. (r.fits, r.order, r.twins)

pub loop-k-init : goal.loop-k-init
loop-k-init c = (omega arith, risen-none _)

pub returns-then-not-event_fits : goal.returns-then-not-event_fits
returns-then-not-event_fits c q = absurd (false≢true q)

pub returns-then-step-least : goal.returns-then-step-least
returns-then-step-least c q = absurd (false≢true q)
