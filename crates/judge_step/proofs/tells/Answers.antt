use Rattle.std.proofs.Common.{not, ◌&&◌, ◌||◌, eqb, refl, sym, ap, ◌∙◌, lit<}
use Rattle.std.specs.Option.{is_some}
use Rattle.machine.specs.Devices.{device?}
use Rattle.word.specs.Psw.{asleep?}
use Rattle.resume.specs.Frames.{svc?}
use Rattle.soundness.specs.Findings.{fault?, return?, pull?, applications?, reads_in}
use Rattle.soundness.specs.Findings.{faulted, unopened, trapped, changed, slept, device, foreign}
use Rattle.findings.proofs.Laws.{found-law}
use Rattle.judge_step.proofs.Laws.{none-sum, changed-any, read-any, not-found}
use Rattle.judge_step.proofs.tells.Goals as goal

pub returns : goal.returns
returns c regs mem w z b p l n f e =
    let a = c.args in
    let o = a.f.now.open in
    let d = sym b.does in
    let mine = applications? z in
    let q1 = not-found (found-law n f _ e 1 (f faulted) (lit< tt) refl) in
    let q2 = not-found (found-law n f _ e 2 (f unopened) (lit< tt) refl) in
    let q3 = not-found (found-law n f _ e 3 (f trapped) (lit< tt) refl) in
    let q5 = not-found (found-law n f _ e 5 (f changed) (lit< tt) refl) in
    let q6 = not-found (found-law n f _ e 6 (f slept) (lit< tt) refl) in
    let q7 = not-found (found-law n f _ e 7 (f device) (lit< tt) refl) in
    let q8 = not-found (found-law n f _ e 8 (f foreign) (lit< tt) refl) in
    let none = none-sum o.owns o.held ∙ sym b.none in
    let changed = ap (λ m. not (eqb m 0)) l.is_changed ∙ changed-any (pull? z.act) z.changes in
    let sleeps = c.asleep.ensures ∙ ap asleep? (sym p) in
    let device = c.is_some.ensures ∙ ap is_some l.is_device ∙ read-any device? (reads_in z) mine in
    let foreign = c.is_some-2.ensures ∙ ap is_some l.is_foreign ∙ read-any z.foreign (reads_in z) mine in
    let act = c.first_by_act.ensures
    ∙ (λ i. fault? (d i) && q1 i || return? (d i) && none i && q2 i || svc? (d i) && not (sym b.own i) && q3 i) in
    let p5 = c.first.ensures ∙ (λ i. changed i && q5 i) in
    let p6 = c.first-2.ensures ∙ (λ i. l.is_mine i && sleeps i && q6 i) in
    let p7 = c.first-3.ensures ∙ (λ i. device i && q7 i) in
    let p8 = c.first-4.ensures ∙ (λ i. foreign i && q8 i) in
    λ i. act i || p5 i || p6 i || p7 i || p8 i
