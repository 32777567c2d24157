-- `operands::condition` meets its contract. Assumes nothing.
use Rattle.std.proofs.Common.{◌<◌, ◌≤◌, ⊎_elim, arith, le-ltb, lt-ltb}
use Rattle.word.proofs.Laws.{order}
use Rattle.operands.proofs.Laws.{never}
use Rattle.operands.proofs.Conditions.{paired}
use Rattle.operands.proofs.condition.Goals as goal

pub returns : goal.returns
returns c =
    let n = c.args.n in
    let p = c.args.psw in
    ⊎_elim (λ (q : 16 ≤ n). rw (le-ltb n 16 q) (never n p (omega arith)))
    (λ (q : n < 16). rw (lt-ltb n 16 q, c.even_condition.ensures) (paired n p q)) (order 16 n)
