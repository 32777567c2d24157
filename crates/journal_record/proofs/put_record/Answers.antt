use Rattle.std.proofs.Common.{◌*◌, length, ap, ◌∙◌}
use lib.Seq.{sets}
use Rattle.machine.specs.State.{state_of}
use Rattle.journal_record.proofs.Laws.{fields-whole, part-put}
use Rattle.journal_record.proofs.put_record.Goals as goal

pub returns : goal.returns
returns c b w =
    let s = c in
    let e = c.fill.ensures b w in
    let j = s.args.journal.now in
    let l = ap length e ∙ fields-whole (state_of s.args.m b) b s.args.a in
    part-put j c.fill.new.e (64 * s.args.p) s.requires l ∙ ap (λ x. sets j (64 * s.args.p) x) e
