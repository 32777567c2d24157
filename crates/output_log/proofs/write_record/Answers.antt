use Prim.Native.Nat.{◌+◌, ◌*◌}
use mathlib.Core.Path.{ap, ◌∙◌}
use lib.ListN.{length-set, set}
use borrow.Author.Rules.{rules}
use Rattle.output_log.proofs.Laws.{record_bytes}
use Rattle.output_log.proofs.write_record.Goals as goal

pub returns : goal.returns
returns c =
    let at-start = c in
    let a = at-start.args in
    let i = 8 * a.k in
    ap (λ l. set (set (set (set l (i + 4) a.x.device) (i + 5) a.x.value) (i + 6) 0) (i + 7) 0) c.put_four.ensures
    ∙ record_bytes a.log.now i a.step a.x.device a.x.value

pub bounds-log-i-2 : goal.bounds-log-i-2
bounds-log-i-2 c = simp length-set (search rules)

pub bounds-log-i-3 : goal.bounds-log-i-3
bounds-log-i-3 c = simp length-set (search rules)

pub bounds-log-i-4 : goal.bounds-log-i-4
bounds-log-i-4 c = simp length-set (search rules)
