-- What each instruction does to the registers, the PSW and the CEX state, and what it asks of memory (003 6 and 14;
-- document 01, "Arithmetic"). No definition here reads memory. The core comes with PC past the instruction and the CEX
-- count lowered, so an instruction reads R7 as the address after itself.
-- Assumes nothing.
use Rattle.std.specs.Prelude.{ℕ, ◌+◌, ◌*◌, ◌-◌, ◌/◌, ◌%◌, Bool, true, cond, not, ◌||◌, [], ◌∷◌, eqb, ltb, ℤ, get_or}
use Rattle.std.specs.Int.Bits.{bit_and, bit_or}
use Rattle.word.specs.Width.{width_of, low, with_low}
use Rattle.word.specs.Psw.{carry?, zero?, negative?, current}
use Rattle.alu.specs.declared.Op.{Op}
use Rattle.alu.specs.declared.Op.TheVariants.{Add, Addc, Sub, Subc, Cmp, Dadd, And, Or, Xor, Bit, Bic, Bis}
use Rattle.alu.specs.declared.Op.TheVariants.{Sra, Rrc, Comp, Swpb, Sxt}
use Rattle.alu.specs.declared.Computed.{Computed}
use Rattle.alu.specs.Alu.{alu_of}
use Rattle.isa.specs.declared.Instr.{Instr}
use Rattle.isa.specs.declared.Instr.TheVariants as i
use Rattle.machine.specs.declared.ByteAddr.{ByteAddr}
use Rattle.machine.specs.declared.Access.{Access}
use Rattle.machine.specs.declared.Access.TheVariants.{Nothing, Load, Store, Fault, Trap}
use Rattle.machine.specs.State.{Core, reg, pc, wrap, down, moved, doubled, with_psw, with_cex, put}
use Rattle.machine.specs.Cex.{at_least?, loaded_cex}

-- the core that an instruction leaves, and what it asks beyond it
pub record Effect : Type 0 where
  pub core : Core
  pub access : Access

abbrev pub effect : Core → Access → Effect
effect c a = record { core = c; access = a }

-- nothing is asked
abbrev pub plainly : Core → Effect
plainly c = effect c Nothing

-- the number a as a byte's address. [01 State and memory]
abbrev pub byte_addr : ℕ → ByteAddr
byte_addr a = record { 0 = a }

-- W/B: 0 word, 1 byte. [003 14]
abbrev pub byte? : ℕ → Bool
byte? wb = eqb wb 1

-- The operations by number: twelve with two operands, three with one. [003 14]
unfoldable pub binary_op : ℕ → Op
binary_op op = get_or (Add ∷ Addc ∷ Sub ∷ Subc ∷ Dadd ∷ Cmp ∷ Xor ∷ And ∷ Or ∷ Bit ∷ Bic ∷ []) op Bis

unfoldable pub unary_op : ℕ → Op
unary_op op = get_or (Sra ∷ Rrc ∷ []) op Comp

-- CMP and BIT change flags alone. [01 Arithmetic; 003 8]
abbrev pub flags_only? : ℕ → Bool
flags_only? op = eqb op 5 || eqb op 9

-- R/C: a register, or the constant that the field names. [003 14]
abbrev pub constant_of : ℕ → ℕ
constant_of k = get_or (0 ∷ 1 ∷ 2 ∷ 4 ∷ 8 ∷ 16 ∷ 32 ∷ []) k 0xFFFF

abbrev pub operand : Core → (rc src : ℕ) → ℕ
operand c rc src = cond (eqb rc 1) (constant_of src) (reg c src)

-- an operation's result, written with its flags, or its flags alone
abbrev pub operated : Core → ℕ → Computed → Core
operated c dst o = with_psw (put c dst o.value) o.psw

-- Branches: the offset counts words from the address after the instruction. [01 State and memory; 003 6]
abbrev pub branched : Core → ℤ → Core
branched c off = put c 7 (moved (pc c) (doubled off))

-- BEQ, BNE, BC, BNC, BN, BGE, BLT, BRA by number. [003 14]
unfoldable pub taken_of : (n p : ℕ) → Bool
taken_of n p =
    get_or
    (zero? p ∷ not (zero? p) ∷ carry? p ∷ not (carry? p) ∷ negative? p ∷ at_least? p ∷ not (at_least? p) ∷ [])
    n
    true

-- Adjustments of LD and ST: steps are 1 for bytes, 2 for words; up and down set together move nothing. [01 Arithmetic]
abbrev pub size_of : ℕ → ℕ
size_of wb = cond (byte? wb) 1 2

abbrev pub moves? : (dec inc : ℕ) → Bool
moves? dec inc = not (eqb dec inc)

abbrev pub adjusted : (a dec inc wb : ℕ) → ℕ
adjusted a dec inc wb = cond (moves? dec inc) (cond (eqb inc 1) (wrap (a + size_of wb)) (down a (size_of wb))) a

abbrev pub adjust : Core → (r dec inc wb : ℕ) → Core
adjust c r dec inc wb = cond (moves? dec inc) (put c r (adjusted (reg c r) dec inc wb)) c

-- "a pre-adjustment moves the address". [01 Arithmetic]
abbrev pub indexed : Core → (r prpo dec inc wb : ℕ) → ℕ
indexed c r prpo dec inc wb = cond (eqb prpo 1) (adjusted (reg c r) dec inc wb) (reg c r)

-- A loaded value is written last; a byte keeps the high byte. [01 Arithmetic]
abbrev pub loaded : Core → (byte : Bool) → (dst v : ℕ) → Core
loaded c byte dst v = put c dst (cond byte (with_low 8 (reg c dst) v) v)

-- MOVL, MOVLZ, MOVLS, MOVH by number, of the byte b into x. [003 6]
unfoldable pub immediate_of : (op b x : ℕ) → ℕ
immediate_of op b x = get_or (with_low 8 x b ∷ b ∷ (0xFF00 + b) ∷ []) op (b * 256 + low 8 x)

-- SETCC and CLRCC carry V, SLP, N, Z, C in the places of the PSW. [003 14]
abbrev pub set_flags : (p f : ℕ) → ℕ
set_flags p f = p / 32 * 32 + bit_or (p % 32) f

abbrev pub clear_flags : (p f : ℕ) → ℕ
clear_flags p f = p / 32 * 32 + bit_and (p % 32) (31 - f)

-- "SETCC at priority 7 leaves SLP clear." [01 Faults]
abbrev pub allowed_flags : (p f : ℕ) → ℕ
allowed_flags p f = cond (eqb (current p) 7) (f / 16 * 16 + f % 8) f

-- SETPRI leaves the previous priority. [01 Faults]
abbrev pub put_current : (p level : ℕ) → ℕ
put_current p level = p / 256 * 256 + level * 32 + p % 32

-- One clause for each format; the ignored bit, _, says nothing of what is done. [003 14; 01 Arithmetic; 02 §14]
unfoldable pub effect_of : Core → Instr → Effect
effect_of c i.Illegal = effect c (Fault 8)
effect_of c (i.Bl off) = plainly (branched (put c 5 (pc c)) off)
effect_of c (i.Branch n off) = plainly (cond (taken_of n c.psw) (branched c off) c)
effect_of c (i.Alu op rc wb src dst) =
    let o = alu_of (binary_op op) (width_of (byte? wb)) (reg c dst) (operand c rc src) c.psw in
    plainly (cond (flags_only? op) (with_psw c o.psw) (operated c dst o))
effect_of c (i.Mov wb src dst) =
    let w = width_of (byte? wb) in
    plainly (put c dst (with_low w (reg c dst) (low w (reg c src))))
effect_of c (i.Swap src dst _) = plainly (put (put c src (reg c dst)) dst (reg c src))
effect_of c (i.Unary op wb dst) =
    plainly (operated c dst (alu_of (unary_op op) (width_of (byte? wb)) (reg c dst) 0 c.psw))
effect_of c (i.Swpb dst _) = plainly (operated c dst (alu_of Swpb 16 (reg c dst) 0 c.psw))
effect_of c (i.Sxt dst _) = plainly (operated c dst (alu_of Sxt 16 (reg c dst) 0 c.psw))
effect_of c (i.SetPri level) =
    cond (ltb (current c.psw) level)
    (effect c (Fault 10))
    (plainly (with_psw c (put_current c.psw level)))
effect_of c (i.Svc v) = effect c (Trap v)
effect_of c (i.SetCc f) = plainly (with_psw c (set_flags c.psw (allowed_flags c.psw f)))
effect_of c (i.ClrCc f) = plainly (with_psw c (clear_flags c.psw f))
effect_of c (i.Cex n t f) = plainly (with_cex c (loaded_cex n t f c.psw))
effect_of c (i.Ld prpo dec inc wb src dst) =
    effect (adjust c src dec inc wb) (Load (byte? wb) (byte_addr (indexed c src prpo dec inc wb)) dst)
effect_of c (i.St prpo dec inc wb src dst) =
    effect (adjust c dst dec inc wb) (Store (byte? wb) (byte_addr (indexed c dst prpo dec inc wb)) (reg c src))
effect_of c (i.MovImm op b dst) = plainly (put c dst (immediate_of op b (reg c dst)))
effect_of c (i.Ldr off wb src dst) = effect c (Load (byte? wb) (byte_addr (moved (reg c src) off)) dst)
effect_of c (i.Str off wb src dst) = effect c (Store (byte? wb) (byte_addr (moved (reg c dst) off)) (reg c src))
