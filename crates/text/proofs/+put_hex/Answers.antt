use Rattle.std.proofs.Common.{ℕ, ◌-◌, ◌/◌, [], ◌∷◌, ◌++◌, sym, ap, ◌∙◌, arith}
use Rattle.text.specs.Text.{hex_of}
use Rattle.text.proofs.Laws.{hex-none, hex-more, puts-then, puts-same}
use Rattle.text.proofs.+put_hex.Goals as goal

pub returns-then-k-eq0 : goal.returns-then-k-eq0
returns-then-k-eq0 t c = (hex-none _ _ _ _ (omega arith), omega arith)

pub returns : goal.returns
returns t c =
    let more = hex-more c.args.k c.args.n (omega arith) in
    let last = ap (λ (g : ℕ). hex_of (c.args.k - 1) (c.args.n / 16) ++ (g ∷ [])) c.digit.ensures in
    (puts-same (puts-then c.put_hex-next.ensures.0 c.put.ensures.0) (last ∙ sym more), omega arith)
