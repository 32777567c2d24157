use Prim.Native.Nat.{◌/◌, ◌%◌}
use mathlib.Core.List.{[]}
use mathlib.Core.Path.{ap, ◌∙◌}
use lib.Seq.{sets}
use Rattle.state_record.specs.Bytes.{two, four}
use Rattle.state_record.proofs.Laws.{halves}
use Rattle.state_record.proofs.put_counts.Goals as goal

pub returns : goal.returns
returns c =
    let at-put-two = c in
    let at-put-four2 = c in
    let at-put-four = c in
    let a = at-put-four.args in
    let lines = two (a.lines % 65536) (two (a.lines / 65536) (two 0 [])) in
    rw (at-put-two.put_two.ensures, at-put-four2.put_four-2.ensures, at-put-four.put_four.ensures)
    (ap (sets a.r.now 22) (halves a.count lines ∙ ap (four a.count) (halves a.lines (two 0 []))))
