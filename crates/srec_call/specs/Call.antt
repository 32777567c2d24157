-- The whole answer of each call for S-records: its reply and the buffer that it leaves, for every length, content and
-- number (document 02, §2; document 01, "Who can be turned back").
-- Assumes nothing.
use Rattle.std.specs.Prelude.{ℕ, ◌+◌, ◌*◌, ⊤, min, cond, Result, Ok, Err, List, eqb, ltb, length}
use Rattle.std.proofs.lemmas.List.Edits.{sets}
use Rattle.text_lines.specs.Lines.{lines_of}
use Rattle.srec.specs.declared.Refused.{Refused}
use Rattle.srec.specs.declared.Refusal.{Refusal}
use Rattle.srec.specs.declared.Refusal.TheVariants.{MemoryLength, Room}
use Rattle.srec.specs.Record.{refusal_number}
use Rattle.srec.specs.Load.{verdict, verdict_of, memory_after, pc_after}
use Rattle.srec.specs.Write.{span_text}

-- ---- load

pub record Loaded : Type 0 where
  pub reply : ℕ
  pub memory : List ℕ

abbrev pub loaded : ℕ → List ℕ → Loaded
loaded r m = record { reply = r; memory = m }

-- The reply as one number: bits 7-0 the refusal (0: none), 31-16 the PC, 63-32 the line at fault; 4,294,967,295
-- stands for a line beyond it. [02 §2; 01 Which shape goes where]
unfoldable pub load_reply : (refusal pc line : ℕ) → ℕ
load_reply refusal pc line = refusal + 65536 * pc + 4294967296 * min line 4294967295

-- The first rule that is broken: 1 before the text is looked at. [02 §2; 01 Who can be turned back, 1]
unfoldable pub load_verdict : (memory text : List ℕ) → Result ⊤ Refused
load_verdict m t = cond (eqb (length m) 65536) (verdict_of t) (verdict MemoryLength 0)

-- "A refused file leaves memory and PC untouched." [02 §2]
abbrev pub load_answer : Result ⊤ Refused → (memory text : List ℕ) (pc : ℕ) → Loaded
load_answer (Ok x) m t pc = loaded (load_reply 0 (pc_after (lines_of t) pc) 0) (memory_after (lines_of t) m)
load_answer (Err v) m t pc = loaded (load_reply (refusal_number v.refusal) pc v.line) m

-- the answer of every load call, by its verdict. [02 §2]
unfoldable pub load_call_of : (memory text : List ℕ) (pc : ℕ) → Loaded
load_call_of m t pc = load_answer (load_verdict m t) m t pc

-- ---- write

pub record Written : Type 0 where
  pub reply : ℕ
  pub text : List ℕ

abbrev pub written : ℕ → List ℕ → Written
written r t = record { reply = r; text = t }

-- The first rule that is broken: "12 when .. the span to be written passes #FFFF, or the text does not fit the buffer
-- lent for it". [02 §2; 01 Who can be turned back, 1]
unfoldable pub write_refusal : (memory : List ℕ) (start size pc : ℕ) (text : List ℕ) → Result ⊤ Refusal
write_refusal m a n pc t =
    cond (eqb (length m) 65536)
    (cond (ltb 65536 (a + n)) (Err Room)
    (cond (ltb (length t) (length (span_text m a n pc))) (Err Room) (Ok tt)))
    (Err MemoryLength)

-- Accepted: the text at the buffer's start, "the buffer past the text is kept"; refused: it "keeps its bytes". Bits 7-0
-- of the reply are the refusal, bits 63-8 the bytes of text. [02 §2; 01 Which shape goes where]
abbrev pub write_answer : Result ⊤ Refusal → (span text : List ℕ) → Written
write_answer (Ok x) s t = written (256 * length s) (sets t 0 s)
write_answer (Err r) s t = written (refusal_number r) t

-- the answer of every write call, by its refusal. [02 §2]
unfoldable pub write_call_of : (memory : List ℕ) (start size pc : ℕ) (text : List ℕ) → Written
write_call_of m a n pc t = write_answer (write_refusal m a n pc t) (span_text m a n pc) t
