-- The loop's invariant is `Swept`, of a list in order: records of one step stand together, so the marks of the devices seen since the step
-- began tell whether the record looked at has a twin before it. Assumes nothing.
use mathlib.Core.Path.{sym, ◌∙◌}
use native.Mathlib.Numerals.{add-one}
use Rattle.devices.proofs.Laws.{device-lt}
use Rattle.event_rules.proofs.Twins.{device_at, sweep-start, sweep-twin, sweep-next, sweep-end}
use Rattle.event_rules.proofs.has_twins.Goals as goal

pub loop-k-init : goal.loop-k-init
loop-k-init c = λ o. sweep-start _

pub marked-requires : goal.marked-requires
marked-requires c = device-lt c.args.events.now _ c.loop-k.k c.requires c.loop-k-test.true

pub returns-then-marked : goal.returns-then-marked
returns-then-marked c =
    let m = c in
    let t = m in
    let l = t in
    let b = l.args.events.now in
    λ o.
    sym (sweep-twin b (l.loop-k.invariant o) t.loop-k-test.true t.step_at-step.ensures m.marks_on-marks.ensures _
    (device_at b l.loop-k.k) (sym m.marked.ensures ∙ c.if-marked.true))

pub mark-marks-requires : goal.mark-marks-requires
mark-marks-requires c = device-lt c.args.events.now _ c.loop-k.k c.requires c.loop-k-test.true

pub loop-k-preserved : goal.loop-k-preserved
loop-k-preserved c =
    let m = c in
    let t = m in
    let l = t in
    let start = l in
    let b = start.args.events.now in
    λ o.
    rw (add-one l.loop-k.k, c.mark-marks.ensures)
    (sweep-next b (l.loop-k.invariant o) t.loop-k-test.true t.step_at-step.ensures m.marks_on-marks.ensures o _
    (device_at b l.loop-k.k) (sym m.marked.ensures ∙ c.if-marked.false))

pub returns : goal.returns
returns c =
    let b = c.args.events.now in
    λ o. sweep-end b (c.loop-k.invariant o) c.loop-k-test.false
