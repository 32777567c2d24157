use native.Mathlib.Omega.{arith}
use Rattle.asm_spellings.proofs.Laws.{register-at, register-less}
use borrow.Author.Rules.{rules}
use Rattle.asm_spellings.proofs.register.Goals as goal

pub returns : goal.returns
returns c =
    let e = register-at c.args.n (search rules) in
    (e, omega (arith, e, register-less c.args.n (search rules)))
