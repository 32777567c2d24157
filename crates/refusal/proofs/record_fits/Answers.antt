-- Test by test, in the code's order: a test that fails makes the definition's conjunction false, whatever the others are; past all of
-- them it is the last test. Assumes nothing.
use Prim.Native.Nat.{◌/◌, ◌%◌}
use mathlib.Core.Bool.{◌&&◌, and-false}
use mathlib.Core.Path.{ap, sym, ◌∙◌}
use lib.Dec.{eqb, ltb}
use borrow.Author.Tests.{eq-eqb, ne_eqb, lt-ltb, le-ltb}
use Rattle.machine.specs.Record.{two_at}
use Rattle.machine.specs.Refusal.{record_fits}
use Rattle.refusal.proofs.record_fits.Goals as goal

pub returns-then-two_at-ge128 : goal.returns-then-two_at-ge128
unfolding record_fits
returns-then-two_at-ge128 c =
    let r = c.args.r.now in
    let e18 = ap (λ v. ltb v 128) (sym c.two_at.ensures) ∙ le-ltb _ _ c.if-two_at-ge128.true in
    rw (e18, and-false (eqb (two_at r 16 / 512 % 16) 0))

pub returns-then-r-ne0 : goal.returns-then-r-ne0
unfolding record_fits
returns-then-r-ne0 c =
    let at-if1 = c in
    let r = at-if1.args.r.now in
    let e20 = ne_eqb _ _ c.if-r-ne0.true in
    rw (e20, and-false (eqb (two_at r 16 / 512 % 16) 0 && ltb (two_at r 18) 128))

pub returns-then-two_at-ne0 : goal.returns-then-two_at-ne0
unfolding record_fits
returns-then-two_at-ne0 c =
    let e16 = ap (λ v. eqb (v / 512 % 16) 0) (sym c.two_at-2.ensures) ∙ ne_eqb _ _ c.if-two_at-ne0.true in
    rw e16

pub returns-then-r-ge2 : goal.returns-then-r-ge2
unfolding record_fits
returns-then-r-ge2 c =
    let at-if3 = c in
    let at-if2 = at-if3 in
    let at-if1 = c in
    let e18 = ap (λ v. ltb v 128) (sym at-if1.two_at.ensures) ∙ lt-ltb _ _ at-if1.if-two_at-ge128.false in
    let e20 = eq-eqb _ _ at-if2.if-r-ne0.false in
    let e16 = ap (λ v. eqb (v / 512 % 16) 0) (sym at-if3.two_at-2.ensures) ∙ eq-eqb _ _ at-if3.if-two_at-ne0.false in
    let e21 = le-ltb _ _ c.if-r-ge2.true in
    rw (e16, e18, e20, e21)

pub returns : goal.returns
unfolding record_fits
returns c =
    let at-if4 = c in
    let at-if3 = at-if4 in
    let at-if2 = c in
    let at-if1 = c in
    let e18 = ap (λ v. ltb v 128) (sym at-if1.two_at.ensures) ∙ lt-ltb _ _ at-if1.if-two_at-ge128.false in
    let e20 = eq-eqb _ _ at-if2.if-r-ne0.false in
    let e16 = ap (λ v. eqb (v / 512 % 16) 0) (sym at-if3.two_at-2.ensures) ∙ eq-eqb _ _ at-if3.if-two_at-ne0.false in
    let e21 = lt-ltb _ _ at-if4.if-r-ge2.false in
    rw (e16, e18, e20, e21) (ap (λ v. eqb v 0) c.two_at-3.ensures)
