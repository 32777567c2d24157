use Rattle.std.proofs.Common.{◌≡◌, drop}
use Rattle.asm_text.specs.Text.{look_up_at, word}
use Rattle.asm_text.proofs.look_up.Given as goal

abbrev pub invariant-loop-n : goal.invariant-loop-n
invariant-loop-n l = look_up_at l.names.source.now (drop l.n-index l.names.list.now) (word (drop l.at l.s))
    ≡ look_up_at l.names.source.now l.names.list.now (word (drop l.at l.s))
