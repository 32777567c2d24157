-- An operation is told by its number: in the list of all operations each stands at its own number, so operations of one number are the
-- same, and those of two numbers are not. Assumes nothing.
use Prim.Native.Nat.{ℕ}
use mathlib.Core.Path.{◌≡◌, refl, sym, ap, ◌∙◌}
use mathlib.Core.Bool.{true, not}
use mathlib.Core.List.{List, [], ◌∷◌}
use lib.Dec.{T, eqb, eqb→eq}
use lib.ListN.{get_or}
use borrow.Author.Tests.{eq-eqb}
use Rattle.isa_ranges.specs.declared.Operation.{Operation}
use Rattle.isa_ranges.specs.declared.Operation.TheVariants as op
use Rattle.isa_ranges.specs.Operation.{operation_number, same_operation}

-- all of them, by number
operations : List Operation
operations =
    op.Illegal ∷ op.Bl ∷ op.Beq ∷ op.Bne ∷ op.Bc ∷ op.Bnc ∷ op.Bn ∷ op.Bge ∷ op.Blt ∷ op.Bra ∷ op.Add ∷ op.Addc
    ∷ op.Sub ∷ op.Subc ∷ op.Dadd ∷ op.Cmp ∷ op.Xor ∷ op.And ∷ op.Or ∷ op.Bit ∷ op.Bic ∷ op.Bis ∷ op.Mov ∷ op.Swap
    ∷ op.Sra ∷ op.Rrc ∷ op.Comp ∷ op.Swpb ∷ op.Sxt ∷ op.SetPri ∷ op.Svc ∷ op.SetCc ∷ op.ClrCc ∷ op.Cex ∷ op.Ld
    ∷ op.St ∷ op.Movl ∷ op.Movlz ∷ op.Movls ∷ op.Movh ∷ op.Ldr ∷ op.Str ∷ []

operation-at : (o : Operation) → get_or operations (operation_number o) op.Illegal ≡ o
unfolding operations operation_number
operation-at op.Illegal = refl
operation-at op.Bl = refl
operation-at op.Beq = refl
operation-at op.Bne = refl
operation-at op.Bc = refl
operation-at op.Bnc = refl
operation-at op.Bn = refl
operation-at op.Bge = refl
operation-at op.Blt = refl
operation-at op.Bra = refl
operation-at op.Add = refl
operation-at op.Addc = refl
operation-at op.Sub = refl
operation-at op.Subc = refl
operation-at op.Dadd = refl
operation-at op.Cmp = refl
operation-at op.Xor = refl
operation-at op.And = refl
operation-at op.Or = refl
operation-at op.Bit = refl
operation-at op.Bic = refl
operation-at op.Bis = refl
operation-at op.Mov = refl
operation-at op.Swap = refl
operation-at op.Sra = refl
operation-at op.Rrc = refl
operation-at op.Comp = refl
operation-at op.Swpb = refl
operation-at op.Sxt = refl
operation-at op.SetPri = refl
operation-at op.Svc = refl
operation-at op.SetCc = refl
operation-at op.ClrCc = refl
operation-at op.Cex = refl
operation-at op.Ld = refl
operation-at op.St = refl
operation-at op.Movl = refl
operation-at op.Movlz = refl
operation-at op.Movls = refl
operation-at op.Movh = refl
operation-at op.Ldr = refl
operation-at op.Str = refl

pub same_operation_lem : (a b : Operation) → T (same_operation a b) → a ≡ b
same_operation_lem a b t =
    sym (operation-at a)
    ∙ ap (λ (n : ℕ). get_or operations n op.Illegal) (eqb→eq (operation_number a) (operation_number b) t)
    ∙ operation-at b

eqb-self : (n : ℕ) → eqb n n ≡ true
eqb-self n = eq-eqb n n refl

pub other-operation : (a b : Operation) → T (not (same_operation a b)) → a ≡ b → ⊥
other-operation a b t e = rw (ap operation_number e, eqb-self (operation_number b)) at t
