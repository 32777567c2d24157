-- Test by test, as in `verdict`: after k tests that were not met the answer is the first broken rule from the list's rule k on, and a
-- test that is met gives its rule's verdict. Assumes nothing.
use Prim.Native.Nat.{ℕ}
use mathlib.Core.Bool.{Bool, true, not}
use mathlib.Core.List.{List, []}
use mathlib.Core.Path.{◌≡◌, refl, sym, ap, ◌∙◌}
use lib.ListN.{length, drop}
use Rattle.machine.specs.Events.{event_count}
use Rattle.machine.specs.Refusal.{Rule, events_fit, events_fit_below, rules_of, first_broken}
use Rattle.devices.specs.Cursor.{Ordered}
use Rattle.event_rules.proofs.Laws.{holds, breaks, order-end, disorder-longer}
use Rattle.event_rules.proofs.events_verdict.Goals as goal

-- the rules that look at nothing but the list
abbrev of_list : List ℕ → List Rule
of_list b = drop 5 (rules_of [] [] b 0)

abbrev So : ℕ → List ℕ → Type 0
So k b = first_broken (of_list b) ≡ first_broken (drop k (of_list b))

so-1 : (b : List ℕ) {t : Bool} → t ≡ events_fit (length b) → t ≡ true → So 1 b
so-1 b e h = holds 0 (of_list b) refl (ap not (sym e ∙ h))

so-2 : (b : List ℕ) {t : Bool} → So 1 b → t ≡ events_fit_below b (event_count b) → t ≡ true → So 2 b
so-2 b s e h = holds 1 (of_list b) s (ap not (sym e ∙ h))

so-3 : (b : List ℕ) → So 2 b → Ordered b → So 3 b
so-3 b s o = holds 2 (of_list b) s (ap not o)

pub returns-then-not-events_fit : goal.returns-then-not-events_fit
returns-then-not-events_fit c _ _ _ =
    breaks 0 (of_list c.args.events.now) refl (ap not (sym c.events_fit.ensures ∙ c.if-not-events_fit.true))

-- a list that rises breaks no rule
pub returns-then-rising : goal.returns-then-rising
returns-then-rising c _ _ _ =
    let b = c.args.events.now in
    let xs = of_list b in
    let (fits, order, twins) = c.rising.ensures c.if-rising.true in
    sym (holds 3 xs (holds 2 xs (holds 1 xs (so-1 b c.events_fit.ensures c.if-not-events_fit.false) (ap not fits)) (ap not order)) twins)

pub returns-then-not-fit : goal.returns-then-not-fit
returns-then-not-fit c _ _ _ =
    let b = c.args.events.now in
    breaks 1 (of_list b) (so-1 b c.events_fit.ensures c.if-not-events_fit.false) (ap not (sym c.fields_fit-fit.ensures ∙ c.if-not-fit.true))

pub has_twins-twins-requires : goal.has_twins-twins-requires
has_twins-twins-requires c = sym c.fields_fit-fit.ensures ∙ c.if-not-fit.false

pub returns-then-ordered-count : goal.returns-then-ordered-count
returns-then-ordered-count c _ _ _ =
    let b = c.args.events.now in
    let s = so-2 b (so-1 b c.events_fit.ensures c.if-not-events_fit.false) c.fields_fit-fit.ensures c.if-not-fit.false in
    let o = c.records_in_order-ordered.ensures in
    breaks 2 (of_list b) s (ap not (disorder-longer b _ (event_count b) c.if-ordered-count.true (o.first c.if-ordered-count.true)))

-- every record is in order, so the pass has found what the definition finds
pub returns-then-twins : goal.returns-then-twins
returns-then-twins c _ _ _ =
    let b = c.args.events.now in
    let s = so-2 b (so-1 b c.events_fit.ensures c.if-not-events_fit.false) c.fields_fit-fit.ensures c.if-not-fit.false in
    let o = c.records_in_order-ordered.ensures in
    let ordered = order-end b _ (event_count b) o.within c.if-ordered-count.false o.before in
    breaks 3 (of_list b) (so-3 b s ordered) (sym (c.has_twins-twins.ensures ordered) ∙ c.if-twins.true)

pub returns : goal.returns
returns c _ _ _ =
    let b = c.args.events.now in
    let s = so-2 b (so-1 b c.events_fit.ensures c.if-not-events_fit.false) c.fields_fit-fit.ensures c.if-not-fit.false in
    let o = c.records_in_order-ordered.ensures in
    let ordered = order-end b _ (event_count b) o.within c.if-ordered-count.false o.before in
    sym (holds 3 (of_list b) (so-3 b s ordered) (sym (c.has_twins-twins.ensures ordered) ∙ c.if-twins.false))
