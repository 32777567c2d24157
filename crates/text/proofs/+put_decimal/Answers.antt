-- By digits, the highest first: a number below ten, or no place left, is one digit; else the digits of a tenth of it, with one place less,
-- and then its last digit (Laws, decimal-more). The places fall at each call.
use Rattle.std.proofs.Common.{ℕ, ◌≡◌, ◌-◌, ◌/◌, ◌%◌, [], ◌∷◌, ◌++◌, sym, ap, ◌∙◌, arith}
use Rattle.text.specs.Text.{glyph, decimal_of}
use Rattle.text.proofs.Laws.{decimal-last, decimal-low, decimal-more, puts-then, puts-same}
use Rattle.text.proofs.+put_decimal.Goals as goal
use Rattle.text.proofs.+put_decimal.Goals.{then-k-eq0-via-then-k-eq0, then-k-eq0-via-else-k-eq0+then-n-lt10}

pub returns-then-k-eq0 : goal.returns-then-k-eq0
returns-then-k-eq0 t c =
    let one : decimal_of c.args.k c.args.n ≡ glyph (c.args.n % 10) ∷ [] =
    elim c.then-k-eq0.branch [
      | then-k-eq0-via-then-k-eq0 w ↦ decimal-last _ _ (omega arith)
      | then-k-eq0-via-else-k-eq0+then-n-lt10 w ↦ decimal-low _ _ (omega arith)
    ] in
    (puts-same c.put.ensures.0 (ap (λ (g : ℕ). g ∷ []) c.digit.ensures ∙ sym one), omega arith, omega arith)

pub returns : goal.returns
returns t c =
    let more = decimal-more c.args.k c.args.n (omega arith) (omega arith) in
    let last = ap (λ (g : ℕ). decimal_of (c.args.k - 1) (c.args.n / 10) ++ (g ∷ [])) c.digit-2.ensures in
    (puts-same (puts-then c.put_decimal-next.ensures.0 c.put-2.ensures.0) (last ∙ sym more), omega arith, omega arith)
