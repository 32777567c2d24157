-- The loop's invariant: the lines from `at` on are those from `i` on, with the bytes between in front of the first (`Scanned`). The byte at
-- `i` is an LF, begins CR LF, or is one byte more of that line; where the text ends the line does. Assumes nothing.
use mathlib.Core.Path.{◌≡◌, sym, subst, ◌∙◌}
use lib.ListN.{length}
use native.Mathlib.Omega.{arith}
use borrow.Author.Rules.{rules}
use Rattle.text_lines.proofs.Laws.{Scanned, scan-start, scan-char, scan-lf, scan-crlf, scan-end}
use Rattle.text_lines.proofs.line_at.Goals as goal

pub loop-i-init : goal.loop-i-init
loop-i-init c = scan-start c.args.text.now c.args.at

pub returns-then-text-i-eq10 : goal.returns-then-text-i-eq10
returns-then-text-i-eq10 c =
    scan-lf c.args.text.now _ _ (omega arith) (omega arith) c.if-text-i-eq10.true c.loop-i.invariant

pub overflow_add-result-then-crlf_at : goal.overflow_add-result-then-crlf_at
overflow_add-result-then-crlf_at c =
    let h = scan-crlf c.args.text.now _ _ (omega arith) (sym c.crlf_at.ensures ∙ c.if-crlf_at.true)
    c.loop-i.invariant in
    search rules

pub returns-then-crlf_at : goal.returns-then-crlf_at
returns-then-crlf_at c =
    scan-crlf c.args.text.now _ _ (omega arith) (sym c.crlf_at.ensures ∙ c.if-crlf_at.true)
    c.loop-i.invariant

pub loop-i-preserved : goal.loop-i-preserved
loop-i-preserved c =
    scan-char c.args.text.now _ _ (omega arith) (omega arith) c.if-text-i-eq10.false
    (sym c.crlf_at.ensures ∙ c.if-crlf_at.false) c.loop-i.invariant

pub returns : goal.returns
returns c =
    let t = c.args.text.now in
    let e : c.loop-i.i ≡ length t = omega arith in
    scan-end t _ _ (omega arith) (omega arith) (subst (Scanned t c.args.at) e c.loop-i.invariant)
