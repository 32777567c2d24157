-- The round trip's premises can be met: three bytes of an empty memory, a buffer that the text just fills. Assumes nothing.
use Prim.Native.Nat.{ℕ, zero, suc, ◌+◌, ◌*◌, ◌%◌, ◌≤◌, ◌<◌}
use mathlib.Core.Path.{◌≡◌, sym, ap, ◌∙◌}
use mathlib.Core.List.{List}
use native.Mathlib.Omega.{arith}
use lib.ListN.{length, get_or, replicate, length-replicate}
use Rattle.srec.specs.Write.{span_length}
use Rattle.srec_call.specs.Call.{Written, write_call_of}
use Rattle.srec_call.specs.Trip.{RoundTrip}
use Rattle.srec_call.proofs.Laws.{write_done}
use Rattle.srec_call.proofs.Trip.{call-restores}

-- a reply of nothing refused, for a span and a text that fit
write-zero : (m : List ℕ) (a n pc : ℕ) (t : List ℕ) → length m ≡ 65536 → a + n ≤ 65536 → span_length n ≤ length t
    → (write_call_of m a n pc t).reply % 256 ≡ 0
write-zero m a n pc t h p l = ap (λ (w : Written). w.reply % 256) (sym (write_done m a n pc t h p l)) ∙ low (span_length n)
  where
    low : (k : ℕ) → 256 * k % 256 ≡ 0
    low k = omega arith

-- n zeros; shut, so that 65,536 of them are never written out
zeros : ℕ → List ℕ
zeros n = replicate n 0

zeros-length : (n : ℕ) → length (zeros n) ≡ n
unfolding zeros
zeros-length n = length-replicate n 0

zeros-bytes : (n i : ℕ) → get_or (zeros n) i 0 < 256
unfolding zeros
zeros-bytes zero i = omega arith
zeros-bytes (suc n) zero = omega arith
zeros-bytes (suc n) (suc i) = zeros-bytes n i

-- #FFFD to #FFFF and PC #1000, into a buffer of 28 bytes
three-accepted : (write_call_of (zeros 65536) 65533 3 4096 (zeros 28)).reply % 256 ≡ 0
three-accepted =
    let l = zeros-length 65536 in
    let k = zeros-length 28 in
    write-zero (zeros 65536) 65533 3 4096 (zeros 28) l (omega arith) (omega arith)

three-restored : RoundTrip (zeros 65536) 65533 3 4096 (zeros 28) (write_call_of (zeros 65536) 65533 3 4096 (zeros 28)).reply
    (write_call_of (zeros 65536) 65533 3 4096 (zeros 28)).text
three-restored = call-restores (zeros 65536) 65533 3 4096 (zeros 28) (zeros-bytes 65536) (omega arith) three-accepted
