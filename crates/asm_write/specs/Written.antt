-- What a statement puts into memory, and where the next one stands (document 02, §12). p is the statement's place.
-- Assumes nothing.
use Rattle.std.specs.Prelude.{ℕ, ◌+◌, ◌/◌, ◌%◌, min, Bool, cond, ◌||◌, ◌&&◌, List, [], ◌∷◌, ltb, eqb, ℤ, pos, negsuc}
use Rattle.std.specs.Prelude.{Option, Some, None, Result, Ok, Err}
use Rattle.word.specs.Offset.{signed_of}
use Rattle.isa.specs.declared.Instr.{Instr}
use Rattle.isa.specs.declared.Instr.TheVariants as i
use Rattle.isa.specs.Encode.{encode_of}
use Rattle.asm_value.specs.declared.Lack.{Lack}
use Rattle.asm_value.specs.declared.Lack.TheVariants.{Unknown, Outside}
use Rattle.asm_fits.specs.Fits.{Fit, ◌>>=◌, word_fit, byte_fit, count_fit, offset_fit, immediate_fit, constant_fit, branch_fit}
use Rattle.asm_line.specs.declared.Statement.{Statement}
use Rattle.asm_line.specs.declared.Statement.TheVariants.{Nothing, Org, Equ, Bss, Byte, Word, End, Fixed, Bl, Branch}
use Rattle.asm_line.specs.declared.Statement.TheVariants.{Constant, SetPri, Svc, Cex, MovImm, Ldr, Str}
use Rattle.asm_write.specs.declared.Layout.{Layout}
use Rattle.asm_write.specs.declared.Layout.TheVariants.{Bytes, Origin, Equal, Space, Stop}

-- ---- the number that a statement stands for

-- the encoder's word. It refuses no instruction made here (asm_theorems: never-refused). "the encoded instructions".
-- [02 §12]
abbrev pub encoded : Option ℕ → Fit
encoded (Some w) = Ok w
encoded None = Err Outside

-- the word of the instruction made of a number that fits
abbrev pub coded : Fit → (ℕ → Instr) → Fit
coded x f = do
  n ← x
  encoded (encode_of (f n))

-- of two numbers that fit: an unknown name in either decides. "then 18, then 19". [02 §12]
abbrev pub coded_both : Fit → Fit → (ℕ → ℕ → Instr) → Fit
coded_both (Ok m) x f = coded x (f m)
coded_both (Err Unknown) x f = Err Unknown
coded_both (Err Outside) (Ok n) f = Err Outside
coded_both (Err Outside) (Err e) f = Err e

-- A byte, a word or an instruction's word; 0 for a statement that has no bytes. [02 §12; 003 14]
unfoldable pub number_of : (p : ℕ) → Statement → Fit
number_of p Nothing = Ok 0
number_of p (Org x) = Ok 0
number_of p (Equ x) = Ok 0
number_of p (Bss x) = Ok 0
number_of p End = Ok 0
number_of p (Byte x) = byte_fit x
number_of p (Word x) = word_fit x
number_of p (Fixed j) = encoded (encode_of j)
number_of p (Bl x) = coded (branch_fit 4096 p x) (λ (n : ℕ). i.Bl (signed_of 4096 n))
number_of p (Branch c x) = coded (branch_fit 512 p x) (λ (n : ℕ). i.Branch c (signed_of 512 n))
number_of p (Constant op wb x dst) = coded (constant_fit x) (λ (n : ℕ). i.Alu op 1 wb n dst)
number_of p (SetPri x) = coded (count_fit 8 x) i.SetPri
number_of p (Svc x) = coded (count_fit 16 x) i.Svc
number_of p (Cex c t f) = coded_both (count_fit 8 t) (count_fit 8 f) (i.Cex c)
number_of p (MovImm op plain x dst) = coded (immediate_fit op plain x) (λ (n : ℕ). i.MovImm op n dst)
number_of p (Ldr x wb src dst) = coded (offset_fit x) (λ (n : ℕ). i.Ldr (signed_of 64 n) wb src dst)
number_of p (Str x wb src dst) = coded (offset_fit x) (λ (n : ℕ). i.Str (signed_of 64 n) wb src dst)

-- ---- its bytes

-- What a statement does to the place: BYTE has one byte, WORD and an instruction two; ORG, EQU and BSS have a value and
-- END stops. A line without a statement has no byte. [02 §12]
unfoldable pub layout_of : Statement → Layout
layout_of Nothing = Bytes 0
layout_of (Org x) = Origin x
layout_of (Equ x) = Equal x
layout_of (Bss x) = Space x
layout_of End = Stop
layout_of (Byte x) = Bytes 1
layout_of (Word x) = Bytes 2
layout_of (Fixed j) = Bytes 2
layout_of (Bl x) = Bytes 2
layout_of (Branch c x) = Bytes 2
layout_of (Constant op wb x dst) = Bytes 2
layout_of (SetPri x) = Bytes 2
layout_of (Svc x) = Bytes 2
layout_of (Cex c t f) = Bytes 2
layout_of (MovImm op plain x dst) = Bytes 2
layout_of (Ldr x wb src dst) = Bytes 2
layout_of (Str x wb src dst) = Bytes 2

-- its bytes in the image: "no other byte changes, BSS's included". [02 §12]
abbrev pub size_of : Layout → ℕ
size_of (Bytes n) = n
size_of (Origin x) = 0
size_of (Equal x) = 0
size_of (Space x) = 0
size_of Stop = 0

-- "code or a WORD falls on an odd address, or any byte passes #FFFF". [02 §12]
unfoldable pub misplaced? : (size p : ℕ) → Bool
misplaced? size p = eqb size 2 && eqb (p % 2) 1 || ltb 0 size && ltb 65536 (p + size)

-- a number that fits, where its bytes may stand
abbrev pub placed : (size p : ℕ) → Fit → Fit
placed size p x = do
  n ← x
  cond (misplaced? size p) (Err Outside) (Ok n)

-- a statement's number, or its fault: 18 before 19. [02 §12]
unfoldable pub used_of : (p : ℕ) → Statement → Fit
used_of p x = placed (size_of (layout_of x)) p (number_of p x)

-- the bytes of a number: words are little-endian. [02 §12; 01 State and memory]
unfoldable pub bytes_for : (size n : ℕ) → List ℕ
bytes_for size n = cond (eqb size 0) [] (cond (eqb size 1) ((n % 256) ∷ []) ((n % 256) ∷ (n / 256) ∷ []))

-- a statement's bytes; none where it is at fault. [02 §12]
abbrev pub bytes_with : (size : ℕ) → Fit → List ℕ
bytes_with size (Ok n) = bytes_for size n
bytes_with size (Err e) = []

abbrev pub bytes_of : (p : ℕ) → Statement → List ℕ
bytes_of p x = bytes_with (size_of (layout_of x)) (used_of p x)

-- ---- the place after it

-- n bytes on. A place beyond 2,147,483,647 is no value of 32 signed bits and no address: one stands for all. [02 §12]
unfoldable pub onward : (p n : ℕ) → ℕ
onward p n = min (p + n) 2147483648

-- the place after a statement, or why there is none
abbrev pub Next : Type 0
Next = Result ℕ Lack

-- "ORG and BSS from 0". [02 §12]
abbrev pub org_next : Result ℤ Lack → Next
org_next (Ok (pos n)) = Ok n
org_next (Ok (negsuc n)) = Err Outside
org_next (Err e) = Err e

-- the bytes that BSS leaves out must be there: "any byte passes #FFFF". [02 §12]
unfoldable pub room_for : (p n : ℕ) → Next
room_for p n = cond (eqb n 0) (Ok p) (cond (ltb 65536 (p + n)) (Err Outside) (Ok (p + n)))

abbrev pub bss_next : ℕ → Result ℤ Lack → Next
bss_next p x = do
  n ← org_next x
  room_for p n

-- the place after a statement; an unknown name in ORG or BSS is 18, a value that is no place 19. [02 §12]
unfoldable pub next_of : (p : ℕ) → Layout → Next
next_of p (Bytes n) = Ok (onward p n)
next_of p (Origin x) = org_next x
next_of p (Equal x) = Ok p
next_of p (Space x) = bss_next p x
next_of p Stop = Ok p

-- "A name .. is the place before its statement .. or the value of EQU". [02 §12]
unfoldable pub place_value : ℕ → Result ℤ Lack
place_value p = cond (ltb p 2147483648) (Ok (pos p)) (Err Outside)

unfoldable pub name_value : (p : ℕ) → Layout → Result ℤ Lack
name_value p (Bytes n) = place_value p
name_value p (Origin x) = place_value p
name_value p (Equal x) = x
name_value p (Space x) = place_value p
name_value p Stop = place_value p
