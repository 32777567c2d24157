-- All is `back_call`'s, in its parts.
use borrow.Author.Rules.{rules}
use mathlib.Core.Path.{ap}
use Rattle.journal.specs.Back.{Lent}
use Rattle.xm23.proofs.xm23_back.Goals as goal

pub returns : goal.returns
returns c =
    let e = c.back_call.ensures in
    let x = e.lent in record {
      reply = e.reply;
      memory = ap (λ (y : Lent). y.memory) x;
      state = ap (λ (y : Lent). y.state) x;
      number = ap (λ (y : Lent). y.journal.kept) x;
      place = ap (λ (y : Lent). y.journal.place) x;
    }
