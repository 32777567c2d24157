-- The calls from their parts. Assumes nothing.
use Prim.Native.Nat.{ℕ, ◌+◌, ◌*◌, ◌≤◌, ◌<◌}
use mathlib.Core.Path.{◌≡◌, sym}
use mathlib.Core.List.{List}
use native.Mathlib.Omega.{arith}
use lib.ListN.{length}
use lib.Seq.{sets}
use borrow.Author.Tests.{eq-eqb, ne_eqb, lt-ltb, le-ltb}
use Rattle.text_lines.specs.Lines.{lines_of}
use Rattle.std.specs.Prelude.{Ok, Err}
use Rattle.srec.specs.declared.Refused.{Refused}
use Rattle.srec.specs.Record.{refusal_number}
use Rattle.srec.specs.Load.{verdict_of, memory_after, pc_after, Sound}
use Rattle.srec.specs.Write.{span_text, span_length}
use Rattle.srec.proofs.Laws.{verdict-sound, span-length}
use Rattle.srec_call.specs.Call.{loaded, load_reply, load_verdict, load_call_of, written, write_refusal, write_call_of}

-- ---- load

pub load-short : (m t : List ℕ) (pc : ℕ) → (length m ≡ 65536 → ⊥) → loaded (load_reply 1 pc 0) m ≡ load_call_of m t pc
unfolding load_call_of load_verdict
load-short m t pc h = rw (ne_eqb (length m) 65536 h)

pub load-refused : (m t : List ℕ) (pc : ℕ) (v : Refused) → length m ≡ 65536 → Err v ≡ verdict_of t
    → loaded (load_reply (refusal_number v.refusal) pc v.line) m ≡ load_call_of m t pc
unfolding load_call_of load_verdict
load-refused m t pc v h e = rw (eq-eqb (length m) 65536 h, ← e)

pub load-done : (m t : List ℕ) (pc : ℕ) → length m ≡ 65536 → Ok tt ≡ verdict_of t
    → loaded (load_reply 0 (pc_after (lines_of t) pc) 0) (memory_after (lines_of t) m) ≡ load_call_of m t pc
unfolding load_call_of load_verdict
load-done m t pc h e = rw (eq-eqb (length m) 65536 h, ← e)

pub load-sound : (t : List ℕ) → Ok tt ≡ verdict_of t → Sound (lines_of t)
load-sound t e = verdict-sound 1 (lines_of t) (sym e)

-- ---- write

module _ (m : List ℕ) (a n pc : ℕ) (t : List ℕ) where
  pub write-short : (length m ≡ 65536 → ⊥) → written 1 t ≡ write_call_of m a n pc t
  unfolding write_call_of write_refusal
  write-short h = rw (ne_eqb (length m) 65536 h)

  pub write-past : length m ≡ 65536 → 65536 < a + n → written 12 t ≡ write_call_of m a n pc t
  unfolding write_call_of write_refusal
  write-past h p = rw (eq-eqb (length m) 65536 h, lt-ltb 65536 (a + n) p)

  pub write-small : length m ≡ 65536 → a + n ≤ 65536 → length t < span_length n → written 12 t ≡ write_call_of m a n pc t
  unfolding write_call_of write_refusal
  write-small h p l =
      let s = span-length m a n pc (omega arith) in
      rw (eq-eqb (length m) 65536 h, le-ltb 65536 (a + n) p, lt-ltb (length t) (length (span_text m a n pc)) (omega arith))

  pub write_done : length m ≡ 65536 → a + n ≤ 65536 → span_length n ≤ length t
      → written (256 * span_length n) (sets t 0 (span_text m a n pc)) ≡ write_call_of m a n pc t
  unfolding write_call_of write_refusal
  write_done h p l =
      let s = span-length m a n pc (omega arith) in
      rw (eq-eqb (length m) 65536 h, le-ltb 65536 (a + n) p, le-ltb (length t) (length (span_text m a n pc)) (omega arith), s)
