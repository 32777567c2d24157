-- The whole answer of the call that tells what stands where in a source: its reply and the buffer that it leaves, for
-- every length and content.
-- Assumes nothing.
use Rattle.std.specs.Prelude.{ℕ, cond, List, ltb, length, Result, Ok, Err, is_ok}
use Rattle.std.specs.Result.{result_and}
use Rattle.std.proofs.lemmas.List.Edits.{sets}
use Rattle.asm_sweeps.specs.declared.Fault.TheVariants.{Room}
use Rattle.asm_sweeps.specs.declared.Refusal.{Refusal}
use Rattle.asm_sweeps.specs.Uses.{refusal, verdict_of}
use Rattle.asm_call.specs.Call.{upper_bits, refusal_reply}
use Rattle.asm_places.specs.Listing.{listed_of, records_of}

-- what the call answers: its reply, and what the lent buffer then holds
pub record Recorded : Type 0 where
  pub reply : ℕ
  pub places : List ℕ

abbrev pub recorded : ℕ → List ℕ → Recorded
recorded r b = record { reply = r; places = b }

-- 17, 18, 19 with the line at fault as the assembler has them; then 22 where the buffer is shorter than the records,
-- with no line; accepted, the number of records. [call places; 02 §12]
unfoldable pub places_verdict : (source places : List ℕ) → Result ℕ Refusal
places_verdict s b =
    result_and (verdict_of s)
    (cond (ltb (length b) (length (records_of (listed_of s)))) (Err (refusal Room 0)) (Ok (length (listed_of s))))

-- The reply is formed as the assembler's: bits 7-0 the refusal, 63-32 the line or the number of records. [call places]
unfoldable pub places_reply : Result ℕ Refusal → ℕ
places_reply (Ok n) = upper_bits n
places_reply (Err r) = refusal_reply r

-- accepted, the records at the buffer's start, the bytes past them kept; refused, the buffer as it was. [call places]
unfoldable pub places_call_of : (source places : List ℕ) → Recorded
places_call_of s b =
    let v = places_verdict s b in
    recorded (places_reply v) (cond (is_ok v) (sets b 0 (records_of (listed_of s))) b)
