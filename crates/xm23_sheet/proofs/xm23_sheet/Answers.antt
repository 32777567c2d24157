use Prim.Native.Nat.{◌≤◌}
use mathlib.Core.Path.{sym, ap, ◌∙◌}
use mathlib.Core.List.{◌++◌}
use native.Mathlib.Omega.{arith}
use borrow.Author.Tests.{lt-ltb, le-ltb}
use lib.ListN.{length, take, drop}
use lib.Seq.{sets}
use Rattle.xm23_sheet.specs.Call.{sheet_call_of}
use Rattle.xm23_sheet.proofs.Laws.{put-first, first-length}
use Rattle.xm23_sheet.proofs.xm23_sheet.Goals as goal

pub returns-then-line-lt80 : goal.returns-then-line-lt80
unfolding sheet_call_of
returns-then-line-lt80 c = let e = lt-ltb _ 80 c.if-line-lt80.true in record { reply = rw e; line = rw e }

pub returns : goal.returns
unfolding sheet_call_of
returns c =
    let s = c.sheet-n in
    let is = s.ensures.line in
    let fits = s.ensures.fits in
    let h : 80 ≤ length c.args.line.now = omega arith in
    let e = le-ltb _ 80 h in
    let n = first-length s.result s.new.out (omega arith) in
    let l = c.args.line.now in
    record {
      reply = rw (e, sym is, n);
      line = rw e
          (ap (λ d. d ++ drop s.result l) c.copy_from_slice.ensures.after
          ∙ put-first l (take s.result s.new.out) s.result n (omega arith)
          ∙ ap (sets l 0) is);
    }
