-- The invariant: the records up to k are in order. Assumes nothing.
use Prim.Native.Nat.{suc, ◌/◌, ◌-◌}
use mathlib.Core.Bool.{true, false}
use mathlib.Core.Path.{◌≡◌, sym, subst, ◌∙◌}
use native.Mathlib.Omega.{arith}
use native.Mathlib.Numerals.{add-one}
use lib.ListN.{length}
use borrow.Author.Tests.{not-true, not-false}
use Rattle.machine.specs.Refusal.{in_order_below}
use Rattle.event_rules.proofs.Laws.{order-one, order-next, order-all, disorder-at}
use Rattle.event_rules.proofs.records_in_order.Goals as goal

pub returns-then-not-in_order : goal.returns-then-not-in_order
returns-then-not-in_order c =
    let b = c.args.events.now in
    let k = c.loop-k.k in
    let e = sym c.in_order.ensures ∙ not-true _ c.if-not-in_order.true-raw in
    let s : suc (k - 1) ≡ k = omega arith in
    record {
      within = omega arith;
      before = c.loop-k.invariant.1;
      first = λ h. subst (λ j. in_order_below b (suc j) ≡ false) s (disorder-at b (k - 1) e);
    }

pub loop-k-preserved : goal.loop-k-preserved
loop-k-preserved c =
    let b = c.args.events.now in
    let k = c.loop-k.k in
    let e = sym c.in_order.ensures ∙ not-false _ c.if-not-in_order.false-raw in
    let s : suc (k - 1) ≡ k = omega arith in
    let h = subst (λ j. in_order_below b j ≡ true) (sym s) c.loop-k.invariant.1 in
    (omega arith, rw (add-one k) (subst (λ j. in_order_below b (suc j) ≡ true) s (order-next b (k - 1) h e)))

pub returns : goal.returns
returns c =
    let b = c.args.events.now in
    let k = c.loop-k.k in
    let s : suc (k - 1) ≡ k = omega arith in
    let h = subst (λ j. in_order_below b j ≡ true) (sym s) c.loop-k.invariant.1 in
    let e = order-all b (k - 1) (length b / 8) (omega arith) (omega arith) h in
    record { within = omega arith; before = e; first = λ h. absurd (omega arith) }

pub loop-k-init : goal.loop-k-init
loop-k-init c = (omega arith, order-one _)
