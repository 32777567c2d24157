-- `going_back::copy_out` meets its contract. Assumes nothing.
use Rattle.std.proofs.Common.{◌+◌, ◌*◌, ap, ◌∙◌}
use lib.Seq.{slice}
use Rattle.machine.specs.Memory.{commit}
use Rattle.journal.specs.Record.{placed}
use Rattle.going_back.proofs.Laws.{memory_copied}
use Rattle.going_back.proofs.copy_out.Goals as goal

pub returns : goal.returns
returns c =
    let at-put-bytes = c in
    let at-put-state = c in
    let s = at-put-state in
    let j = s.args.journal.now in
    let o = 64 * s.args.p in
    let a = c.two_at-a.result in
    let e2 = c.put_bytes-2.ensures in
    let e1 = at-put-bytes.put_bytes.ensures in record {
      memory = e2 ∙ ap (λ m. commit (placed a (slice (o + 50) (o + 50 + 8) j)) m) e1
          ∙ memory_copied s.args.memory.now j s.args.p a s.requires.2 c.two_at-a.ensures;
      state = at-put-state.put_state.ensures;
    }
