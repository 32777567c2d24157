-- What holds of the assembler, as statements; the proofs folder has a proof of each. assemble_call_of is what a C host's
-- call answers, placed_of a source's statements at their places. Assumes nothing.
use Rattle.std.specs.Prelude.{ℕ, ◌+◌, ◌*◌, ◌/◌, ◌%◌, ◌<◌, ◌≤◌, ◌≡◌, Bool, false, cond, not, ◌&&◌, List, [], ◌∷◌, ◌++◌, eqb, ℤ, pos, negsuc, length, get_or}
use Rattle.std.specs.Prelude.{Option, Some, Result, Ok, Err}
use Rattle.std.specs.Int.Signed.{mag}
use Rattle.word.specs.Offset.{signed_of, bits_of}
use Rattle.isa.specs.declared.Instr.{Instr}
use Rattle.isa.specs.declared.Instr.TheVariants as i
use Rattle.isa.specs.Decode.{decode_of}
use Rattle.isa.specs.Encode.{encode_of}
use Rattle.asm_text.specs.Text.{ascii}
use Rattle.asm_value.specs.declared.Lack.{Lack}
use Rattle.asm_fits.specs.Fits.{Fit, residue_of, count_fit, offset_fit, immediate_fit, constant_fit, branch_fit}
use Rattle.asm_line.specs.declared.Statement.{Statement}
use Rattle.asm_line.specs.declared.Statement.TheVariants.{Nothing, Org, Equ, Bss, Byte, Word, End, Fixed, Bl, Branch}
use Rattle.asm_line.specs.declared.Statement.TheVariants.{Constant, SetPri, Svc, Cex, MovImm, Ldr, Str}
use Rattle.asm_line.specs.Line.{line_with, line_of}
use Rattle.asm_write.specs.Written.{layout_of, size_of}
use Rattle.asm_sweeps.specs.Uses.{names_of}
use Rattle.asm_image.specs.Image.{Placed, placing, placed_of, image_of}
use Rattle.asm_call.specs.Call.{assemble_call_of}
use Rattle.asm_print.specs.Print.{constants}

-- ---- no other byte changes

-- the byte at a is one of a statement's
abbrev pub Covers : Placed → ℕ → Type 0
Covers x a = (x.place ≤ a) × (a < x.place + size_of (layout_of x.statement))

-- it is no statement's
abbrev pub Uncovered : List Placed → ℕ → Type 0
Uncovered [] a = Unit
Uncovered (x ∷ xs) a = (Covers x a → ⊥) × Uncovered xs a

-- "no other byte changes". [02 §12]
abbrev pub OthersKept : Type 0
OthersKept = (xs : List Placed) (m : List ℕ) (a : ℕ) → Uncovered xs a → get_or (image_of xs m) a 0 ≡ get_or m a 0

-- "BSS's included": it covers none. [02 §12]
abbrev pub SpaceUncovered : Type 0
SpaceUncovered = (p a : ℕ) (v : Result ℤ Lack) → Covers (placing p (Bss v)) a → ⊥

abbrev pub LengthKept : Type 0
LengthKept = (xs : List Placed) (m : List ℕ) → length (image_of xs m) ≡ length m

-- ---- the call, with any memory and source

-- it tells no refusal
abbrev pub Accepted : (memory source : List ℕ) → Type 0
Accepted m s = (assemble_call_of m s).reply % 256 ≡ 0

-- "no other byte changes, BSS's included", refused or not. [02 §12]
abbrev pub CallKeeps : Type 0
CallKeeps =
    (m s : List ℕ) (a : ℕ) → Uncovered (placed_of (names_of s) s) a → get_or (assemble_call_of m s).memory a 0 ≡ get_or m a 0

abbrev pub CallLength : Type 0
CallLength = (m s : List ℕ) → length (assemble_call_of m s).memory ≡ length m

-- a refused source leaves memory as it was. [02 §12]
abbrev pub RefusedKeeps : Type 0
RefusedKeeps = (m s : List ℕ) → (Accepted m s → ⊥) → (assemble_call_of m s).memory ≡ m

-- ---- what a statement means

-- a branch by off words from the place p leads to z modulo 65,536: "offsets wrap". [02 §12; 003 6]
abbrev pub Leads : (p : ℕ) (off z : ℤ) → Type 0
Leads p off z = (p + 2 + 2 * bits_of 32768 off) % 65536 ≡ residue_of z

-- the byte that MOVL, MOVLZ, MOVLS and MOVH (op 3) take: of a number the byte itself; of a value in which a name stands
-- "the lower 8-bits .. and the higher 8-bits for MOVH". [02 §12; 003 6]
abbrev pub byte_taken : (op : ℕ) (number : Bool) → ℤ → ℕ
byte_taken op number z = cond (not number && eqb op 3) (residue_of z / 256) (residue_of z % 256)

-- "the operation and operands written": j has the operation, registers and letters of the statement at p, and its
-- values, each found; of a branch an offset to its target. A directive has no operation. [02 §12]
abbrev pub Means : (p : ℕ) → Statement → Instr → Type 0
Means p Nothing j = Unit
Means p (Org v) j = Unit
Means p (Equ v) j = Unit
Means p (Bss v) j = Unit
Means p (Byte v) j = Unit
Means p (Word v) j = Unit
Means p End j = Unit
Means p (Fixed k) j = j ≡ k
Means p (Bl v) j = (z : ℤ) × (off : ℤ) × (v ≡ Ok z) × (j ≡ i.Bl off) × (mag off < 4096) × Leads p off z
Means p (Branch c v) j = (z : ℤ) × (off : ℤ) × (v ≡ Ok z) × (j ≡ i.Branch c off) × (mag off < 512) × Leads p off z
Means p (Constant op wb v dst) j =
    (n : ℕ) × (n < 8) × (v ≡ Ok (get_or constants n (pos 0))) × (j ≡ i.Alu op 1 wb n dst)
Means p (SetPri v) j = (n : ℕ) × (v ≡ Ok (pos n)) × (j ≡ i.SetPri n)
Means p (Svc v) j = (n : ℕ) × (v ≡ Ok (pos n)) × (j ≡ i.Svc n)
Means p (Cex c t f) j = (m : ℕ) × (n : ℕ) × (t ≡ Ok (pos m)) × (f ≡ Ok (pos n)) × (j ≡ i.Cex c m n)
Means p (MovImm op number v dst) j = (z : ℤ) × (v ≡ Ok z) × (j ≡ i.MovImm op (byte_taken op number z) dst)
Means p (Ldr v wb src dst) j = (z : ℤ) × (v ≡ Ok z) × (j ≡ i.Ldr z wb src dst)
Means p (Str v wb src dst) j = (z : ℤ) × (v ≡ Ok z) × (j ≡ i.Str z wb src dst)

-- ---- the image of an accepted source

-- the word at a, little-endian
abbrev pub word_in : (memory : List ℕ) (a : ℕ) → ℕ
word_in m a = get_or m a 0 + 256 * get_or m (a + 1) 0

-- x is a statement of an accepted source, `after` are those behind it
pub record Assembles (m s : List ℕ) (x : Placed) (after : List Placed) : Type 0 where
  pub accepted : Accepted m s
  pub before : List Placed
  pub among : placed_of (names_of s) s ≡ before ++ (x ∷ after)

-- "decoding each assembled word not overlapped gives the operation and operands written". [02 §12]
abbrev pub WordsDecode : Type 0
WordsDecode =
    (m s : List ℕ) (x : Placed) (after : List Placed) → Assembles m s x after
    → Uncovered after x.place → Uncovered after (x.place + 1)
    → Means x.place x.statement (decode_of (word_in (assemble_call_of m s).memory x.place))

-- "The image holds the .. data at the stated addresses": a WORD's two bytes are its value, a BYTE's one too. [02 §12]
abbrev pub WordHeld : Type 0
WordHeld =
    (m s : List ℕ) (p : ℕ) (v : Result ℤ Lack) (after : List Placed) → Assembles m s (placing p (Word v)) after
    → Uncovered after p → Uncovered after (p + 1)
    → (z : ℤ) × (v ≡ Ok z) × (word_in (assemble_call_of m s).memory p ≡ residue_of z)

abbrev pub ByteHeld : Type 0
ByteHeld =
    (m s : List ℕ) (p : ℕ) (v : Result ℤ Lack) (after : List Placed) → Assembles m s (placing p (Byte v)) after
    → Uncovered after p
    → (z : ℤ) × (v ≡ Ok z) × (get_or (assemble_call_of m s).memory p 0 ≡ residue_of z % 256)

-- ---- encode is never refused

abbrev pub Encodes : Instr → Type 0
Encodes j = (w : ℕ) × (encode_of j ≡ Some w)

-- where the values fit
abbrev pub Coded : Fit → (ℕ → Instr) → Type 0
Coded (Ok n) f = Encodes (f n)
Coded (Err d) f = Unit

abbrev pub CodedBoth : Fit → Fit → (ℕ → ℕ → Instr) → Type 0
CodedBoth (Ok m) x f = Coded x (f m)
CodedBoth (Err d) x f = Unit

-- each instruction that numberOf has encoded is encoded
abbrev pub NotRefused : (p : ℕ) → Statement → Type 0
NotRefused p Nothing = Unit
NotRefused p (Org v) = Unit
NotRefused p (Equ v) = Unit
NotRefused p (Bss v) = Unit
NotRefused p (Byte v) = Unit
NotRefused p (Word v) = Unit
NotRefused p End = Unit
NotRefused p (Fixed j) = Encodes j
NotRefused p (Bl v) = Coded (branch_fit 4096 p v) (λ (n : ℕ). i.Bl (signed_of 4096 n))
NotRefused p (Branch c v) = Coded (branch_fit 512 p v) (λ (n : ℕ). i.Branch c (signed_of 512 n))
NotRefused p (Constant op wb v dst) = Coded (constant_fit v) (λ (n : ℕ). i.Alu op 1 wb n dst)
NotRefused p (SetPri v) = Coded (count_fit 8 v) i.SetPri
NotRefused p (Svc v) = Coded (count_fit 16 v) i.Svc
NotRefused p (Cex c t f) = CodedBoth (count_fit 8 t) (count_fit 8 f) (i.Cex c)
NotRefused p (MovImm op number v dst) = Coded (immediate_fit op number v) (λ (n : ℕ). i.MovImm op n dst)
NotRefused p (Ldr v wb src dst) = Coded (offset_fit v) (λ (n : ℕ). i.Ldr (signed_of 64 n) wb src dst)
NotRefused p (Str v wb src dst) = Coded (offset_fit v) (λ (n : ℕ). i.Str (signed_of 64 n) wb src dst)

-- a statement that does not fit is 19 by its values alone: `encode` refuses nothing that a line says. [02 §12]
abbrev pub NeverRefused : Type 0
NeverRefused =
    (look : List ℕ → Result ℤ Lack) (l : List ℕ) (start : ℕ) (name : Option ℕ) (x : Statement)
    → line_of look l ≡ line_with start name x
    → (p : ℕ) → NotRefused p x

-- ---- an example that meets the premises

-- four lines
abbrev pub sample : List ℕ
sample =
    ascii " ORG #256\n"
    ++ ascii "L MOVH L,R0\n"
    ++ ascii " BRA L\n"
    ++ ascii " END"

-- With any memory of 65,536 bytes, MOVH stands at 256 and takes L's higher byte, BRA stands at 258 and leads two words
-- back. [02 §12]
abbrev pub Sample : Type 0
Sample =
    (m : List ℕ) → length m ≡ 65536
    → Assembles m sample (placing 256 (MovImm 3 false (Ok (pos 256)) 0))
    (placing 258 (Branch 7 (Ok (pos 256))) ∷ placing 260 End ∷ [])
    × Assembles m sample (placing 258 (Branch 7 (Ok (pos 256)))) (placing 260 End ∷ [])
    × (decode_of (word_in (assemble_call_of m sample).memory 256) ≡ i.MovImm 3 1 0)
    × (decode_of (word_in (assemble_call_of m sample).memory 258) ≡ i.Branch 7 (negsuc 1))
