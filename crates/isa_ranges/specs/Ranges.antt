-- The 52 ranges of words with one operation, and the ends of the range around a word. Assumes nothing.
use Rattle.std.specs.Prelude.{ℕ, suc, ◌+◌, ◌*◌, Bool, cond, List, [], ◌∷◌, leb}
use Rattle.isa_ranges.specs.declared.Operation.{Operation}
use Rattle.isa_ranges.specs.declared.Operation.TheVariants as op
use Rattle.isa_ranges.specs.declared.Ends.{Ends}
use Rattle.isa_ranges.specs.Operation.{operation_of, operation_number, same_operation}

-- A row: the last word of a range and its operation. A range begins above the one before it, the first at #0000.
-- [02 §4; 003 14]
abbrev pub Row : Type 0
Row = ℕ × Operation

-- The ranges, rising. SRA to SXT have one for each value of bit 6. [02 §4; 003 14]
unfoldable pub rows : List Row
rows =
    (0x1FFF, op.Bl)
    ∷ (0x23FF, op.Beq) ∷ (0x27FF, op.Bne) ∷ (0x2BFF, op.Bc) ∷ (0x2FFF, op.Bnc)
    ∷ (0x33FF, op.Bn) ∷ (0x37FF, op.Bge) ∷ (0x3BFF, op.Blt) ∷ (0x3FFF, op.Bra)
    ∷ (0x40FF, op.Add) ∷ (0x41FF, op.Addc) ∷ (0x42FF, op.Sub) ∷ (0x43FF, op.Subc)
    ∷ (0x44FF, op.Dadd) ∷ (0x45FF, op.Cmp) ∷ (0x46FF, op.Xor) ∷ (0x47FF, op.And)
    ∷ (0x48FF, op.Or) ∷ (0x49FF, op.Bit) ∷ (0x4AFF, op.Bic) ∷ (0x4BFF, op.Bis)
    ∷ (0x4C7F, op.Mov) ∷ (0x4CFF, op.Swap)
    ∷ (0x4D07, op.Sra) ∷ (0x4D0F, op.Rrc) ∷ (0x4D17, op.Comp)
    ∷ (0x4D1F, op.Swpb) ∷ (0x4D27, op.Sxt) ∷ (0x4D3F, op.Illegal)
    ∷ (0x4D47, op.Sra) ∷ (0x4D4F, op.Rrc) ∷ (0x4D57, op.Comp)
    ∷ (0x4D5F, op.Swpb) ∷ (0x4D67, op.Sxt) ∷ (0x4D7F, op.Illegal)
    ∷ (0x4D87, op.SetPri) ∷ (0x4D9F, op.Illegal) ∷ (0x4DAF, op.Svc) ∷ (0x4DBF, op.Illegal)
    ∷ (0x4DDF, op.SetCc) ∷ (0x4DFF, op.ClrCc) ∷ (0x4FFF, op.Illegal)
    ∷ (0x53FF, op.Cex) ∷ (0x57FF, op.Illegal) ∷ (0x5BFF, op.Ld) ∷ (0x5FFF, op.St)
    ∷ (0x67FF, op.Movl) ∷ (0x6FFF, op.Movlz) ∷ (0x77FF, op.Movls) ∷ (0x7FFF, op.Movh)
    ∷ (0xBFFF, op.Ldr) ∷ (0xFFFF, op.Str) ∷ []

-- The ends of a row's range that begins at a word. [02 §4]
abbrev pub row_ends : ℕ → Row → Ends
row_ends first row = record { first = first; last = row.0 }

-- The ends of the range around w, where the rows begin at a word; above the rows there is none. [02 §4]
abbrev pub ends_in : ℕ → List Row → ℕ → Ends
ends_in first [] w = record { first = first; last = w }
ends_in first (row ∷ rest) w = cond (leb w row.0) (row_ends first row) (ends_in (suc row.0) rest w)

-- The operation of the range around w, likewise. [02 §4]
abbrev pub operation_among : List Row → ℕ → Operation
operation_among [] w = op.Illegal
operation_among (row ∷ rest) w = cond (leb w row.0) row.1 (operation_among rest w)

-- The ends of the longest unbroken range around a word whose words all have its operation. [02 §4]
unfoldable pub ends_of : ℕ → Ends
ends_of w = ends_in 0 rows w

abbrev pub first_of : ℕ → ℕ
first_of w = (ends_of w).first

abbrev pub last_of : ℕ → ℕ
last_of w = (ends_of w).last

-- The words that table 25 gives to no instruction. [02 §4; 003 14]
unfoldable pub listed_illegal : ℕ → Bool
listed_illegal w = same_operation (operation_among rows w) op.Illegal

-- What xm23_range replies: the operation in bits 15-8, the first word in 31-16, the last in 47-32. [02 §4]
unfoldable pub range_reply : ℕ → ℕ
range_reply w = operation_number (operation_of w) * 0x100 + first_of w * 0x10000 + last_of w * 0x100000000
