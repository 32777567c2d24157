-- The invariant: every record passed fits. Assumes nothing.
use mathlib.Core.Path.{◌≡◌, sym, ◌∙◌, ap}
use native.Mathlib.Omega.{arith}
use native.Mathlib.Numerals.{add-one}
use borrow.Author.Tests.{not-true, not-false}
use Rattle.machine.specs.Refusal.{events_fit_below}
use Rattle.event_rules.proofs.Laws.{fits-none, fits_next, unfit-below}
use Rattle.event_rules.proofs.fields_fit.Goals as goal

pub returns-then-not-event_fits : goal.returns-then-not-event_fits
returns-then-not-event_fits c =
    let at-start = c in
    let b = at-start.args.events.now in
    sym (unfit-below b _ _ c.loop-k-test.true (sym c.event_fits.ensures ∙ not-true _ c.if-not-event_fits.true-raw))

pub loop-k-preserved : goal.loop-k-preserved
loop-k-preserved c =
    let at-start = c in
    let b = at-start.args.events.now in
    let k = c.loop-k.k in
    let e = sym c.event_fits.ensures ∙ not-false _ c.if-not-event_fits.false-raw in
    rw (add-one k) (fits_next b k c.loop-k.invariant e)

pub returns : goal.returns
returns c =
    let a = c.args in
    let e : c.loop-k.k ≡ a.count = omega arith in
    sym (ap (events_fit_below a.events.now) (sym e) ∙ c.loop-k.invariant)

pub loop-k-init : goal.loop-k-init
loop-k-init c = fits-none _
