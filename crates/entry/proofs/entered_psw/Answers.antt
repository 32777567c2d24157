use Rattle.std.proofs.Common.{ℕ, ◌+◌, ◌*◌, ◌/◌, ◌%◌, ap}
use Rattle.machine.specs.Entry.{entered_psw}
use Rattle.entry.proofs.entered_psw.Goals as goal

pub returns : goal.returns
unfolding entered_psw
returns c =
    let a = c.args in
    ap (λ (x : ℕ). a.p % 8 + a.p / 16 % 16 * 16 + x * 256 + a.q * 8192) c.flag.ensures.0
