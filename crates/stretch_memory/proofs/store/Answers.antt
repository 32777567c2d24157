-- `stretch_memory::store` meets its contract. Assumes nothing.
use Rattle.std.proofs.Common.{not, sym, ◌∙◌, true≢false}
use mathlib.Mathlib.Data.Bool.Basic.{or-eq-false-eq-eq-false-and-eq-false}
use borrow.Author.Tests.{not-false}
use Rattle.machine_laws.proofs.Cases.{and_both}
use Rattle.stretch_memory.proofs.store.Goals as goal

pub returns : goal.returns
returns c =
    let (h, k) = (or-eq-false-eq-eq-false-and-eq-false (not c.inside.result) (not c.aligned.result)).0 c.if-inside-aligned.false in
    record {
      declined = λ e. absurd (true≢false e);
      stored = λ e. (
        and_both (sym c.inside.ensures ∙ not-false _ h) (sym c.aligned.ensures ∙ not-false _ k),
        c.store.ensures,
      );
    }
