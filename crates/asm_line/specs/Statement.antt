-- The statements, by the word that begins them and the shape of their operands; i is the place after the word. V is a
-- value, R a register; [.B.W] may stand behind the word. Assumes nothing.
use Rattle.std.specs.Prelude.{Bool, true, false, cond, List, ℕ, ℤ, Option, Some, None, Result}
use Rattle.isa.specs.declared.Instr.TheVariants as instr
use Rattle.asm_value.specs.declared.Lack.{Lack}
use Rattle.asm_text.specs.Text.{found}
use Rattle.asm_text.specs.declared.Read.{Read}
use Rattle.asm_words.specs.declared.Word as words
use Rattle.asm_words.specs.declared.Word.TheVariants.{Free, Reserved, Begins}
use Rattle.asm_words.specs.declared.Keyword.{Keyword}
use Rattle.asm_words.specs.declared.Keyword.TheVariants as key
use Rattle.asm_words.specs.declared.Valued.{Valued}
use Rattle.asm_words.specs.declared.Valued.TheVariants as val
use Rattle.asm_line.specs.declared.Statement.{Statement}
use Rattle.asm_line.specs.declared.Statement.TheVariants.{Org, Equ, Bss, Byte, Word, End, Fixed, Bl, Branch}
use Rattle.asm_line.specs.declared.Statement.TheVariants.{Constant, SetPri, Svc, Cex, MovImm, Ldr, Str}
use Rattle.asm_operands.specs.Operands.{register_at, condition_at, flags_at, width_at, value_at, number?, address_at}
use Rattle.asm_operands.specs.Operands.{comma_register, comma_value, comma_address}

-- g of what was read and of the place after it, if something was
abbrev pub having : {A : Type 0} → Option (Read A) → (A → ℕ → Option (Read Statement)) → Option (Read Statement)
having None g = None
having (Some r) g = g r.value r.next

-- ---- V

-- what each word of one value makes of it. [02 §12]
unfoldable pub with_value : Valued → Result ℤ Lack → Statement
with_value val.Org v = Org v
with_value val.Bss v = Bss v
with_value val.Byte v = Byte v
with_value val.Word v = Word v
with_value val.Bl v = Bl v
with_value (val.Branch c) v = Branch c v
with_value val.SetPri v = SetPri v
with_value val.Svc v = Svc v

unfoldable pub one_value : (List ℕ → Result ℤ Lack) → List ℕ → Valued → ℕ → Option (Read Statement)
one_value look s m i = having (value_at look s i) (λ v j. found (with_value m v) j)

-- name EQU V: it needs a name. [02 §12]
unfoldable pub equate : (List ℕ → Result ℤ Lack) → List ℕ → (named : Bool) → ℕ → Option (Read Statement)
equate look s named i = cond named (having (value_at look s i) (λ v j. found (Equ v) j)) None

-- ---- registers

-- ADD to BIS [.B .W] R,R after the first R, and V,R. [02 §12]
abbrev pub arithmetic_from : (List ℕ → Result ℤ Lack) → List ℕ → (op w i : ℕ) → Option (Read ℕ) → Option (Read Statement)
arithmetic_from look s op w i None =
    having (value_at look s i) (λ v j. having (comma_register s j) (λ d k. found (Constant op w v d) k))
arithmetic_from look s op w i (Some r) =
    having (comma_register s r.next) (λ d k. found (Fixed (instr.Alu op 0 w r.value d)) k)

-- ADD to BIS [.B .W] R,R or V,R. [02 §12]
unfoldable pub arithmetic : (List ℕ → Result ℤ Lack) → List ℕ → (op i : ℕ) → Option (Read Statement)
arithmetic look s op i = having (width_at s i) (λ w j. arithmetic_from look s op w j (register_at s j))

-- MOV [.B .W] R,R. [02 §12]
unfoldable pub move : List ℕ → ℕ → Option (Read Statement)
move s i =
    having (width_at s i) (λ w j. having (register_at s j) (λ r k. having (comma_register s k) (λ d l.
    found (Fixed (instr.Mov w r d)) l)))

-- SWAP R,R. [02 §12]
unfoldable pub exchange : List ℕ → ℕ → Option (Read Statement)
exchange s i = having (register_at s i) (λ r j. having (comma_register s j) (λ d k. found (Fixed (instr.Swap r d 0)) k))

-- SRA, RRC, COMP [.B .W] R. [02 §12]
unfoldable pub unary : List ℕ → (op i : ℕ) → Option (Read Statement)
unary s op i = having (width_at s i) (λ w j. having (register_at s j) (λ d k. found (Fixed (instr.Unary op w d)) k))

-- SWPB R, SXT R. [02 §12]
unfoldable pub one_register : List ℕ → (swapped : Bool) → ℕ → Option (Read Statement)
one_register s swapped i =
    having (register_at s i) (λ d j. found (Fixed (cond swapped (instr.Swpb d 0) (instr.Sxt d 0))) j)

-- ---- flags and conditions

-- SETCC, CLRCC and one to five of V S N Z C. [02 §12]
unfoldable pub on_flags : List ℕ → (set : Bool) → ℕ → Option (Read Statement)
on_flags s set i = having (flags_at s i) (λ f j. found (Fixed (cond set (instr.SetCc f) (instr.ClrCc f))) j)

-- CEX condition,V,V. [02 §12]
unfoldable pub conditional : (List ℕ → Result ℤ Lack) → List ℕ → ℕ → Option (Read Statement)
conditional look s i =
    having (condition_at s i) (λ c j. having (comma_value look s j) (λ t k. having (comma_value look s k) (λ f l.
    found (Cex c t f) l)))

-- ---- memory

-- LD [.B .W] a,R. [02 §12]
unfoldable pub load : List ℕ → ℕ → Option (Read Statement)
load s i =
    having (width_at s i) (λ w j. having (address_at s j) (λ a k. having (comma_register s k) (λ d l.
    found (Fixed (instr.Ld a.prpo a.dec a.inc w a.register d)) l)))

-- ST [.B .W] R,a. [02 §12]
unfoldable pub store : List ℕ → ℕ → Option (Read Statement)
store s i =
    having (width_at s i) (λ w j. having (register_at s j) (λ r k. having (comma_address s k) (λ a l.
    found (Fixed (instr.St a.prpo a.dec a.inc w r a.register)) l)))

-- MOVL, MOVLZ, MOVLS, MOVH V,R: a number, in brackets too, is told from a value in which a name stands. [02 §12; 003 6]
unfoldable pub move_byte : (List ℕ → Result ℤ Lack) → List ℕ → (op i : ℕ) → Option (Read Statement)
move_byte look s op i =
    having (value_at look s i) (λ v j. having (comma_register s j) (λ d k. found (MovImm op (number? s i) v d) k))

-- LDR [.B .W] R,V,R. [02 §12]
unfoldable pub load_relative : (List ℕ → Result ℤ Lack) → List ℕ → ℕ → Option (Read Statement)
load_relative look s i =
    having (width_at s i) (λ w j. having (register_at s j) (λ r k. having (comma_value look s k) (λ v l.
    having (comma_register s l) (λ d n. found (Ldr v w r d) n))))

-- STR [.B .W] R,R,V. [02 §12]
unfoldable pub store_relative : (List ℕ → Result ℤ Lack) → List ℕ → ℕ → Option (Read Statement)
store_relative look s i =
    having (width_at s i) (λ w j. having (register_at s j) (λ r k. having (comma_register s k) (λ d l.
    having (comma_value look s l) (λ v n. found (Str v w r d) n))))

-- ---- all of them

-- the statement that a keyword begins. [02 §12]
unfoldable pub statement_with : (List ℕ → Result ℤ Lack) → List ℕ → (named : Bool) → Keyword → ℕ → Option (Read Statement)
statement_with look s named (key.Value m) i = one_value look s m i
statement_with look s named key.Equ i = equate look s named i
statement_with look s named key.End i = found End i
statement_with look s named (key.Arithmetic op) i = arithmetic look s op i
statement_with look s named key.Mov i = move s i
statement_with look s named key.Swap i = exchange s i
statement_with look s named (key.Unary op) i = unary s op i
statement_with look s named key.Swpb i = one_register s true i
statement_with look s named key.Sxt i = one_register s false i
statement_with look s named key.SetCc i = on_flags s true i
statement_with look s named key.ClrCc i = on_flags s false i
statement_with look s named key.Cex i = conditional look s i
statement_with look s named key.Ld i = load s i
statement_with look s named key.St i = store s i
statement_with look s named (key.MovImm op) i = move_byte look s op i
statement_with look s named key.Ldr i = load_relative look s i
statement_with look s named key.Str i = store_relative look s i

-- the statement of a word: a register, a condition, a reserved word and a name begin none. [02 §12]
unfoldable pub statement_of : (List ℕ → Result ℤ Lack) → List ℕ → (named : Bool) → words.Word → ℕ → Option (Read Statement)
statement_of look s named Free i = None
statement_of look s named Reserved i = None
statement_of look s named (Begins k) i = statement_with look s named k i
