-- The arithmetic as numbers: an operation's number, and the outcome as one number. Assumes nothing.
use Rattle.std.specs.Prelude.{cond, ◌&&◌, List, [], ◌∷◌, ℕ, ◌+◌, ◌*◌, ltb, eqb, get_or}
use Rattle.word.specs.Width.{width_of}
use Rattle.alu.specs.declared.Computed.{Computed}
use Rattle.alu.specs.declared.Op.{Op}
use Rattle.alu.specs.declared.Op.TheVariants.{Add, Addc, Sub, Subc, Cmp, Dadd, And, Or, Xor}
use Rattle.alu.specs.declared.Op.TheVariants.{Bit, Bic, Bis, Sra, Rrc, Comp, Swpb, Sxt}
use Rattle.alu.specs.Alu.{alu_of}

-- the operations 0 to 15 in order. [01 Arithmetic]
abbrev pub operations : List Op
operations =
    Add ∷ Addc ∷ Sub ∷ Subc ∷ Cmp ∷ Dadd ∷ And ∷ Or ∷ Xor ∷ Bit ∷ Bic ∷ Bis ∷ Sra ∷ Rrc ∷ Comp ∷ Swpb ∷ []

-- the operation with number n; 16 is SXT. [01 Arithmetic]
unfoldable pub op_of : ℕ → Op
op_of n = get_or operations n Sxt

-- the destination in bits 31 to 16, the PSW in bits 47 to 32, and a low byte of 0. [01 Arithmetic]
abbrev pub packed : Computed → ℕ
packed o = o.value * 0x10000 + o.psw * 0x100000000

-- the reply for operation op, byte 0 (word) or 1 (byte); 1 if there is no such operation or width. [01 Arithmetic]
unfoldable pub reply_of : (op byte d s p : ℕ) → ℕ
reply_of op byte d s p =
    cond (ltb op 17 && ltb byte 2) (packed (alu_of (op_of op) (width_of (eqb byte 1)) d s p)) 1
