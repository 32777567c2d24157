use mathlib.Core.List.{[], ◌∷◌}
use mathlib.Core.Path.{refl, sym, ap, ◌∙◌}
use borrow.Enum.Refused.{opened}
use Rattle.machine.specs.Log.{shown_on, logged_of}
use Rattle.machine_laws.proofs.Acts.{of-these}
use Rattle.output_log.proofs.Laws.{store-even, store-odd}
use Rattle.output_log.proofs.shown_by.Goals as goal

pub returns-then-byte-at : goal.returns-then-byte-at
returns-then-byte-at c s e =
    let x = c.in-Stores in
    store-even x.byte x.at x.value s c.if-byte-at.true ∙ ap (λ x. logged_of x s) (sym c.in-Stores.is)

pub returns-else-byte-at : goal.returns-else-byte-at
returns-else-byte-at c s e =
    let o = c.odd_byte.ensures in
    let w = c.word_of.ensures.0 in
    let i = c.if-byte-at.false in
    let x = c.in-Stores in
    c.shown_on.ensures s.count
    ∙ (λ t. shown_on s.count (sym e t) (w t) (o t))
    ∙ store-odd x.byte x.at x.value s i
    ∙ ap (λ x. logged_of x s) (sym c.in-Stores.is)

pub returns-in_default : goal.returns-in_default
returns-in_default c s e =
    let a = c.args.a in
    sym (of-these (λ x. logged_of x s) [] (0 ∷ 1 ∷ 2 ∷ 3 ∷ 4 ∷ 5 ∷ 6 ∷ 7 ∷ 8 ∷ 9 ∷ 10 ∷ []) refl a
    (opened c.in_default.in_default-own.keys2))
