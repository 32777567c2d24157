use Rattle.std.proofs.Common.{◌≡◌, refl, sym, subst, arith}
use Rattle.journal.specs.Record.{bytes_from}
use Rattle.journal_record.proofs.Laws.{between, eight-wrapped}
use Rattle.journal_record.proofs.eight_before.Goals as goal

pub eight_at-requires : goal.eight_at-requires
eight_at-requires c = let b = between c.args.a c.if-a.true in (b.0, b.1)

pub returns-then-a : goal.returns-then-a
returns-then-a c b w = c.eight_at.ensures b _ w

pub returns-then-a-eq0 : goal.returns-then-a-eq0
returns-then-a-eq0 c b w = subst (λ z. c.first_eight.result ≡ bytes_from b z 8) (sym c.if-a-eq0.true) (c.first_eight.ensures b _ w)

pub returns : goal.returns
returns c b w =
    eight-wrapped b c.args.a _ _ _ _ _ _ _ _ _ _ _ _ _ _ _ (omega arith)
    (c.byte_before.ensures b w)
    refl (c.byte_before-2.ensures b w)
    refl (c.byte_before-3.ensures b w)
    refl (c.byte_before-4.ensures b w)
    refl (c.byte_before-5.ensures b w)
    refl (c.byte_before-6.ensures b w)
    refl (c.byte_before-7.ensures b w)
    refl (c.byte_before-8.ensures b w)
