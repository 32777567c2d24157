use Rattle.std.proofs.Common.{ℕ, [], ◌∷◌, sym, refl, ap, ◌∙◌}
use borrow.Enum.Refused.{opened}
use Rattle.machine.specs.State.{down}
use Rattle.machine.specs.Entry.{pushed}
use Rattle.machine.specs.Memory.{even}
use Rattle.machine_laws.proofs.Acts.{of-these}
use Rattle.journal.specs.Record.{address_of}
use Rattle.journal_record.proofs.address_of.Goals as goal

pub returns-in-Accept : goal.returns-in-Accept
unfolding address_of
returns-in-Accept c k q =
    c.frame_at.ensures ∙ ap (λ (s : ℕ). even (down s 8)) (sym q)
    ∙ sym (of-these (λ a. address_of a k) (even (pushed k)) (3 ∷ 5 ∷ 8 ∷ []) refl c.args.a c.in-Accept.in-Accept-own.keys1)

pub returns-in-Stores : goal.returns-in-Stores
unfolding address_of
returns-in-Stores c k q = c.stored_at.ensures ∙ ap (λ a. address_of a k) (sym c.in-Stores.is)

pub returns-in_default : goal.returns-in_default
unfolding address_of
returns-in_default c k q =
    sym (of-these (λ a. address_of a k) 0 (0 ∷ 1 ∷ 2 ∷ 4 ∷ 6 ∷ 7 ∷ 9 ∷ 10 ∷ []) refl c.args.a (opened c.in_default.in_default-own.keys3))
