-- The points of a step from sleep on, in order: asleep, PC odd, skipped, an odd word access, or what the access grants. Each way out is a
-- law with the tests before it as premises (entry's Quiet, instruction-asleep to instruction-runs). Assumes nothing.
use Rattle.std.proofs.Common.{ℕ, ◌+◌, List, get_or, set, sym, refl, ap, ◌∙◌, subst}
use lib.Seq.{set-get_or}
use Rattle.isa.specs.Fields.{Fields}
use Rattle.isa.proofs.Laws.{decode-fields}
use Rattle.machine.specs.State.{core_of, wrap}
use Rattle.machine.specs.Effect.{Effect, effect_of}
use Rattle.machine.specs.Step.{faulting, executed}
use Rattle.machine_laws.proofs.Plans.{granted-even}
use Rattle.step_plan.specs.Planned.{Asked}
use Rattle.entry.proofs.Quiet.{instruction-asleep, instruction-odd, instruction-skips, instruction-runs}
use Rattle.step_plan.proofs.Laws.{skip-law, odd-law, fetched, fetched-quits, effect-within}
use Rattle.step_plan.proofs.instruction.Goals as goal

pub returns-then-asleep : goal.returns-then-asleep
returns-then-asleep c =
    let a = c.args in
    sym (instruction-asleep (core_of a.regs.now a.psw a.cex) a.mem.now (sym c.asleep.ensures ∙ c.if-asleep.true))

pub returns-then-pc-eq1 : goal.returns-then-pc-eq1
returns-then-pc-eq1 c =
    let k = c in
    let at-start = c in
    let a = at-start.args in
    let x = core_of a.regs.now a.psw a.cex in
    let awake = sym k.asleep.ensures ∙ k.if-asleep.false in
    c.faulted.ensures
    ∙ ap (λ (r : List ℕ). faulting (core_of r a.psw a.cex) x 9) (set-get_or a.regs.now 7 0)
    ∙ sym (instruction-odd x a.mem.now awake c.if-pc-eq1.true)

pub returns-then-skips : goal.returns-then-skips
returns-then-skips c =
    let r = c in
    let at-start = c in
    let a = at-start.args in
    let x = core_of a.regs.now a.psw a.cex in
    let awake = sym r.asleep.ensures ∙ r.if-asleep.false in
    let skipped = sym c.skips.ensures ∙ c.if-skips.true in
    skip-law a.regs.now a.psw a.cex _ _ refl r.lower-left.ensures
    ∙ sym (instruction-skips x a.mem.now awake c.if-pc-eq1.false skipped)

pub execute-d-requires : goal.execute-d-requires
execute-d-requires c = subst Fields (sym c.decode.ensures) (decode-fields _)

-- an odd word access: the registers are those from before the step, PC past the instruction
pub returns-then-odd : goal.returns-then-odd
returns-then-odd c =
    let o = c in
    let d = c in
    let b = c in
    let at-if2 = b in
    let r = at-if2 in
    let at-start = r in
    let a = at-start.args in
    let x = core_of a.regs.now a.psw a.cex in
    let y = core_of (set a.regs.now 7 (wrap (get_or a.regs.now 7 0 + 2))) a.psw r.lower-left.result in
    let e =
    fetched a.regs.now a.mem.now a.psw a.cex _ _ _ _ _ b.word_of.ensures.0 b.read_word-w.ensures
    refl r.lower-left.ensures
    (o.execute-d.ensures ∙ ap (effect_of y) d.decode.ensures) in
    let awake = sym r.asleep.ensures ∙ r.if-asleep.false in
    let taken = sym b.skips.ensures ∙ b.if-skips.false in
    odd-law a.regs.now a.mem.now a.psw a.cex _ _ _ refl
    r.lower-left.ensures (sym o.odd.ensures ∙ c.if-odd.true) c.faulted-then-odd.ensures
    ∙ ap (λ (z : Effect). executed x z a.mem.now) e
    ∙ sym (instruction-runs x a.mem.now awake at-if2.if-pc-eq1.false taken)

pub returns : goal.returns
returns c =
    let o = c in
    let d = c in
    let b = c in
    let at-if2 = b in
    let r = at-if2 in
    let at-start = r in
    let a = at-start.args in
    let x = core_of a.regs.now a.psw a.cex in
    let y = core_of (set a.regs.now 7 (wrap (get_or a.regs.now 7 0 + 2))) a.psw r.lower-left.result in
    let e =
    fetched a.regs.now a.mem.now a.psw a.cex _ _ _ _ _ b.word_of.ensures.0 b.read_word-w.ensures
    refl r.lower-left.ensures
    (o.execute-d.ensures ∙ ap (effect_of y) d.decode.ensures) in
    let awake = sym r.asleep.ensures ∙ r.if-asleep.false in
    let taken = sym b.skips.ensures ∙ b.if-skips.false in
    c.grant.ensures x refl refl refl (fetched-quits _ _ _ e)
    ∙ sym (granted-even x _ _ a.mem.now (sym o.odd.ensures ∙ c.if-odd.false))
    ∙ ap (λ (z : Effect). executed x z a.mem.now) e
    ∙ sym (instruction-runs x a.mem.now awake at-if2.if-pc-eq1.false taken)

pub grant-requires : goal.grant-requires
grant-requires c =
    let f = subst Fields (sym c.decode.ensures) (decode-fields _) in
    subst (λ (e : Effect). Asked e.access) (sym c.execute-d.ensures) (effect-within _ _ f)
