use mathlib.Core.Path.{sym, ◌∙◌}
use borrow.Author.Tests.{eq-eqb, ne_eqb, lt-ltb, le-ltb, not-true, not-false}
use Rattle.journal.specs.Call.{back_verdict}
use borrow.Author.Rules.{rules}
use Rattle.journal_rules.proofs.back_verdict.Goals as goal

pub returns-then-memory-ne65536 : goal.returns-then-memory-ne65536
unfolding back_verdict
returns-then-memory-ne65536 c = rw (ne_eqb _ _ c.if-memory-ne65536.true)

pub returns-then-state-ne32 : goal.returns-then-state-ne32
unfolding back_verdict
returns-then-state-ne32 c = rw (eq-eqb _ _ c.if-memory-ne65536.false, ne_eqb _ _ c.if-state-ne32.true)

pub returns-then-not-fits : goal.returns-then-not-fits
unfolding back_verdict
returns-then-not-fits c =
    let e3 = sym c.journal_fits-fits.ensures ∙ not-true _ c.if-not-fits.true-raw in
    rw (eq-eqb _ _ c.if-memory-ne65536.false, eq-eqb _ _ c.if-state-ne32.false, e3)

pub returns-then-kept-k : goal.returns-then-kept-k
unfolding back_verdict
returns-then-kept-k c =
    let e3 = sym c.journal_fits-fits.ensures ∙ not-false _ c.if-not-fits.false-raw in
    rw (eq-eqb _ _ c.if-memory-ne65536.false, eq-eqb _ _ c.if-state-ne32.false, e3, lt-ltb _ _ c.if-kept-k.true)

pub returns : goal.returns
unfolding back_verdict
returns c =
    let e3 = sym c.journal_fits-fits.ensures ∙ not-false _ c.if-not-fits.false-raw in
    rw (eq-eqb _ _ c.if-memory-ne65536.false, eq-eqb _ _ c.if-state-ne32.false, e3, le-ltb _ _ c.if-kept-k.false)
