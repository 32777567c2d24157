use borrow.Author.Tests.{eq-eqb, ne_eqb, lt-leb, le-leb}
use Rattle.journal.specs.Ring.{journal_fits}
use Rattle.journal_rules.proofs.journal_fits.Goals as goal

pub returns-then-n-eq0 : goal.returns-then-n-eq0
unfolding journal_fits
returns-then-n-eq0 c = rw (eq-eqb _ _ c.if-n-eq0.true)

pub returns-then-n-gt65536 : goal.returns-then-n-gt65536
unfolding journal_fits
returns-then-n-gt65536 c = rw (ne_eqb _ _ c.if-n-eq0.false, lt-leb _ _ c.if-n-gt65536.true)

pub returns-then-n-ne0 : goal.returns-then-n-ne0
unfolding journal_fits
returns-then-n-ne0 c = rw (ne_eqb _ _ c.if-n-eq0.false, le-leb _ _ c.if-n-gt65536.false, ne_eqb _ _ c.if-n-ne0.true)

pub returns-then-n-kept : goal.returns-then-n-kept
unfolding journal_fits
returns-then-n-kept c =
    rw (
      ne_eqb _ _ c.if-n-eq0.false,
      le-leb _ _ c.if-n-gt65536.false,
      eq-eqb _ _ c.if-n-ne0.false,
      lt-leb _ _ c.if-n-kept.true,
    )

pub returns : goal.returns
unfolding journal_fits
returns c =
    rw (
      ne_eqb _ _ c.if-n-eq0.false,
      le-leb _ _ c.if-n-gt65536.false,
      eq-eqb _ _ c.if-n-ne0.false,
      le-leb _ _ c.if-n-kept.false,
    )
