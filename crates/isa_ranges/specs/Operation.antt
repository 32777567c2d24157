-- The operation of each word: the row of table 25 of 003 that its instruction is of. Word and byte forms, register and
-- constant are one operation; the words of no instruction are one too, "illegal counting as one". Assumes nothing.
use Rattle.std.specs.Prelude.{ℕ, Bool, [], ◌∷◌, eqb, get_or}
use Rattle.isa.specs.declared.Instr.{Instr}
use Rattle.isa.specs.declared.Instr.TheVariants.{Illegal, Bl, Branch, Alu, Mov, Swap, Unary, Swpb, Sxt, SetPri}
use Rattle.isa.specs.declared.Instr.TheVariants.{Svc, SetCc, ClrCc, Cex, Ld, St, MovImm, Ldr, Str}
use Rattle.isa.specs.Decode.{decode_of}
use Rattle.isa_ranges.specs.declared.Operation.{Operation}
use Rattle.isa_ranges.specs.declared.Operation.TheVariants as op

-- Of the formats that hold several operations, by the field that tells them apart: those of the numbers from 0 on, and
-- the last for every other number. [02 §4; 003 14]
abbrev pub branch_operation : ℕ → Operation
branch_operation c = get_or (op.Beq ∷ op.Bne ∷ op.Bc ∷ op.Bnc ∷ op.Bn ∷ op.Bge ∷ op.Blt ∷ []) c op.Bra

abbrev pub alu_operation : ℕ → Operation
alu_operation n =
    get_or (op.Add ∷ op.Addc ∷ op.Sub ∷ op.Subc ∷ op.Dadd ∷ op.Cmp ∷ op.Xor ∷ op.And ∷ op.Or ∷ op.Bit ∷ op.Bic ∷ []) n
    op.Bis

abbrev pub unary_operation : ℕ → Operation
unary_operation n = get_or (op.Sra ∷ op.Rrc ∷ []) n op.Comp

abbrev pub mov_imm_operation : ℕ → Operation
mov_imm_operation n = get_or (op.Movl ∷ op.Movlz ∷ op.Movls ∷ []) n op.Movh

-- The operation of an instruction. [02 §4; 003 14]
unfoldable pub operation_in : Instr → Operation
operation_in Illegal = op.Illegal
operation_in (Bl off) = op.Bl
operation_in (Branch c off) = branch_operation c
operation_in (Alu n rc wb src dst) = alu_operation n
operation_in (Mov wb src dst) = op.Mov
operation_in (Swap src dst ignored) = op.Swap
operation_in (Unary n wb dst) = unary_operation n
operation_in (Swpb dst ignored) = op.Swpb
operation_in (Sxt dst ignored) = op.Sxt
operation_in (SetPri level) = op.SetPri
operation_in (Svc vector) = op.Svc
operation_in (SetCc flags) = op.SetCc
operation_in (ClrCc flags) = op.ClrCc
operation_in (Cex c onTrue onFalse) = op.Cex
operation_in (Ld prpo dec inc wb src dst) = op.Ld
operation_in (St prpo dec inc wb src dst) = op.St
operation_in (MovImm n byte dst) = mov_imm_operation n
operation_in (Ldr off wb src dst) = op.Ldr
operation_in (Str off wb src dst) = op.Str

-- The operation of a word. [02 §4]
abbrev pub operation_of : ℕ → Operation
operation_of w = operation_in (decode_of w)

-- The number of an operation: 0 illegal, then the rows of table 25 from 1 on. [02 §4; 003 14]
unfoldable pub operation_number : Operation → ℕ
operation_number op.Illegal = 0
operation_number op.Bl = 1
operation_number op.Beq = 2
operation_number op.Bne = 3
operation_number op.Bc = 4
operation_number op.Bnc = 5
operation_number op.Bn = 6
operation_number op.Bge = 7
operation_number op.Blt = 8
operation_number op.Bra = 9
operation_number op.Add = 10
operation_number op.Addc = 11
operation_number op.Sub = 12
operation_number op.Subc = 13
operation_number op.Dadd = 14
operation_number op.Cmp = 15
operation_number op.Xor = 16
operation_number op.And = 17
operation_number op.Or = 18
operation_number op.Bit = 19
operation_number op.Bic = 20
operation_number op.Bis = 21
operation_number op.Mov = 22
operation_number op.Swap = 23
operation_number op.Sra = 24
operation_number op.Rrc = 25
operation_number op.Comp = 26
operation_number op.Swpb = 27
operation_number op.Sxt = 28
operation_number op.SetPri = 29
operation_number op.Svc = 30
operation_number op.SetCc = 31
operation_number op.ClrCc = 32
operation_number op.Cex = 33
operation_number op.Ld = 34
operation_number op.St = 35
operation_number op.Movl = 36
operation_number op.Movlz = 37
operation_number op.Movls = 38
operation_number op.Movh = 39
operation_number op.Ldr = 40
operation_number op.Str = 41

-- Whether two operations are the same. [02 §4]
abbrev pub same_operation : Operation → Operation → Bool
same_operation a b = eqb (operation_number a) (operation_number b)
