use Rattle.std.proofs.Common.{◌≡◌, not, ◌&&◌, eqb, get_or, refl, sym, ap, ◌∙◌}
use Rattle.machine.specs.State.{pc}
use Rattle.machine.specs.Devices.{device?}
use Rattle.machine_laws.proofs.Cases.{is_eq, not-eq}
use Rattle.word.specs.Psw.{asleep?}
use Rattle.resume.specs.Frames.{svc?}
use Rattle.soundness.specs.Findings.{fault?, return?, pull?, vector_of, applications?, reads_in}
use Rattle.judge_step.specs.Look.{read_amiss}
use Rattle.judge_step.proofs.Laws.{none-sum, and-then, and-else, told-law, changed-shown, read-shown}
use Rattle.judge_step.proofs.shown.Goals as goal
use Rattle.judge_step.proofs.shown.Goals.{then-f-eq0, else-f-eq0, then-returns, else-returns, then-traps, else-traps, then-l, else-l}

pub returns : goal.returns
returns c regs mem w z b e p l =
    let a = c.args in
    let o = a.f.now.open in
    let d = sym b.does in
    let from = sym e ∙ sym (ap (λ g. get_or g 7 0) b.registers) in
    let none : c.if-f-eq0.none ≡ (eqb o.owns 0 && eqb o.held 0) =
    elim c.if-f-eq0.branch [
      | then-f-eq0 w ↦ and-then (eqb o.held 0) (is_eq w.if-f-eq0.true) w.none-is
      | else-f-eq0 w ↦ and-else (eqb o.held 0) (not-eq w.if-f-eq0.false) w.none-is
    ] in
    let returned : c.if-returns.then_some ≡ (c.returns.result && c.if-f-eq0.none) =
    elim c.if-returns.branch [
      | then-returns w ↦ and-then c.if-f-eq0.none w.if-returns.true w.then_some-is
      | else-returns w ↦ and-else c.if-f-eq0.none w.if-returns.false w.then_some-is
    ] in
    let trapped : c.if-traps.then_some ≡ (c.traps.result && not (eqb o.held 0)) =
    elim c.if-traps.branch [
      | then-traps w ↦ and-then (not (eqb o.held 0)) w.if-traps.true w.then_some-is
      | else-traps w ↦ and-else (not (eqb o.held 0)) w.if-traps.false w.then_some-is
    ] in
    let slept : c.if-l.then_some ≡ (a.l.mine && asleep? a.psw) =
    elim c.if-l.branch [
      | then-l w ↦ and-then (asleep? a.psw) w.if-l.true (w.then_some-is ∙ w.asleep.ensures)
      | else-l w ↦ and-else (asleep? a.psw) w.if-l.false w.then_some-is
    ] in
    let nothing = none ∙ none-sum o.owns o.held ∙ sym b.none in
    let own = ap not (sym b.own) in
    let by = c.vector_of.ensures ∙ ap vector_of d in
    record {
      is_faulted = told-law (c.faults.ensures ∙ ap fault? d) by from c.then_some.ensures;
      is_unopened = told-law (returned ∙ (λ i. (c.returns.ensures ∙ ap return? d) i && nothing i)) refl from c.then_some-2.ensures;
      is_trapped = told-law (trapped ∙ (λ i. (c.traps.ensures ∙ ap svc? d) i && own i)) by from c.then_some-3.ensures;
      is_changed = told-law (ap (λ n. not (eqb n 0)) l.is_changed) l.is_changed from c.then_some-4.ensures
          ∙ changed-shown (pull? z.act) z.changes (pc z.begins.core);
      is_slept = told-law (slept ∙ (λ i. l.is_mine i && asleep? (sym p i))) refl from c.then_some-5.ensures;
      is_device = c.read.ensures ∙ ap read_amiss l.is_device ∙ read-shown device? (reads_in z) (applications? z);
      is_foreign = c.read-2.ensures ∙ ap read_amiss l.is_foreign ∙ read-shown z.foreign (reads_in z) (applications? z);
    }
