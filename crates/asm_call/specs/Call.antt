-- The whole answer of the assembler's call: its reply and the memory that it leaves, for every length and content
-- (document 02, §12; document 01, "Who can be turned back").
-- Assumes nothing.
use Rattle.std.specs.Prelude.{ℕ, ◌+◌, ◌*◌, min, cond, List, eqb, length, Result, Ok, Err, is_ok}
use Rattle.asm_sweeps.specs.declared.Fault.{Fault}
use Rattle.asm_sweeps.specs.declared.Fault.TheVariants.{Memory, Form, Unknown, Outside, Room}
use Rattle.asm_sweeps.specs.declared.Refusal.{Refusal}
use Rattle.asm_sweeps.specs.Uses.{names_of, refusal, verdict_of}
use Rattle.asm_image.specs.Image.{placed_of, image_of}

pub record Assembled : Type 0 where
  pub reply : ℕ
  pub memory : List ℕ

abbrev pub assembled : ℕ → List ℕ → Assembled
assembled r m = record { reply = r; memory = m }

-- The numbers of the refusals. [02 §12; 01 Who can be turned back; call places]
abbrev pub refusal_number : Fault → ℕ
refusal_number Memory = 1
refusal_number Form = 17
refusal_number Unknown = 18
refusal_number Outside = 19
refusal_number Room = 22

-- A number in bits 63-32; 4,294,967,295 stands for one beyond it. [02 §12; 01 Which shape goes where]
unfoldable pub upper_bits : ℕ → ℕ
upper_bits n = 4294967296 * min n 4294967295

-- The reply as one number: bits 7-0 the refusal (0: none), 63-32 the line at fault. [02 §12; 01 Which shape goes where]
abbrev pub reply_of : (number line : ℕ) → ℕ
reply_of n line = n + upper_bits line

-- The same of a refusal. [02 §12; 01 Which shape goes where]
abbrev pub refusal_reply : Refusal → ℕ
refusal_reply r = refusal_number r.kind + upper_bits r.line

unfoldable pub assemble_reply : Result Unit Refusal → ℕ
assemble_reply (Ok done) = 0
assemble_reply (Err r) = refusal_reply r

-- The first rule that is broken: 1 before the source is looked at. [02 §12; 01 Who can be turned back, 1]
unfoldable pub assemble_verdict : (memory source : List ℕ) → Result Unit Refusal
assemble_verdict m s = cond (eqb (length m) 65536) (verdict_of s) (Err (refusal Memory 0))

-- "assemble them into memory"; refused, memory is as it was. [02 §12; 01 Who can be turned back]
unfoldable pub assemble_call_of : (memory source : List ℕ) → Assembled
assemble_call_of m s =
    let v = assemble_verdict m s in
    assembled (assemble_reply v) (cond (is_ok v) (image_of (placed_of (names_of s) s) m) m)
