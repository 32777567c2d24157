-- A line written and read back. Its digits are those of its bytes, so count, address and data are read as they were written; the checksum
-- completes their sum to 255, so the line has no fault. Assumes nothing.
use Prim.Native.Nat.{ℕ, ◌+◌, ◌-◌, ◌*◌, ◌/◌, ◌%◌, ◌≤◌, ◌<◌}
use mathlib.Core.Path.{◌≡◌, refl}
use mathlib.Core.Bool.{Bool, true, false, cond, ◌&&◌}
use mathlib.Core.List.{List, [], ◌∷◌}
use native.Mathlib.Omega.{arith}
use lib.Dec.{eqb, ltb, leb}
use lib.ListN.{length, get_or, drop, length-append}
use lib.Seq.{take_at}
use borrow.Author.Tests.{le-ltb, le-leb, eq-eqb}
use Rattle.text_lines.proofs.Laws.{Plain}
use Rattle.srec.specs.Digits.{all_digits, sum_of}
use Rattle.std.specs.Prelude.{Ok}
use Rattle.srec.specs.Record.{bytes_of, kind_of, count_of, address_of, data_of, known, shaped_of, summed_of, fault_of}
use Rattle.srec.specs.Load.{stored_of}
use Rattle.srec.specs.Write.{sealed, line_of}
use Rattle.srec.proofs.Laws.{length_digits}
use Rattle.srec_trip.specs.Trip.{Bytes}
use Rattle.srec_trip.proofs.Digits.{pairs-digits, all_digits_lem, plain-digits, bytes-append, sum-append}

-- count, address and data of a line
abbrev body : ℕ → List ℕ → List ℕ
body a ds = (length ds + 3) ∷ (a / 256) ∷ (a % 256) ∷ ds

module _ (kind a : ℕ) (ds : List ℕ) (high : a < 65536) (short : length ds ≤ 252) (bytes : Bytes ds) where
  sealed-bytes : Bytes (sealed (body a ds))
  sealed-bytes =
      bytes-append (body a ds) ((255 - sum_of (body a ds) % 256) ∷ []) (omega arith, (omega arith, (omega arith, bytes))) (omega arith, tt)

  pub line-bytes : bytes_of (line_of kind a ds) ≡ sealed (body a ds)
  unfolding bytes_of line_of
  line-bytes = pairs-digits (sealed (body a ds)) sealed-bytes

  pub line_plain : 31 < kind → Plain (line_of kind a ds)
  unfolding line_of
  line_plain h = (omega arith, (h, plain-digits (sealed (body a ds)) sealed-bytes))

  line-count : count_of (line_of kind a ds) ≡ length ds + 3
  line-count = rw line-bytes

  pub line-address : address_of (line_of kind a ds) ≡ a
  line-address = rw line-bytes (omega arith)

  pub line-data : data_of (line_of kind a ds) ≡ ds
  line-data =
      rw line-bytes
      (take_at ds ((255 - sum_of (body a ds) % 256) ∷ []) (length ds + 3 - 3) (omega arith))

  line-digits : all_digits (drop 2 (line_of kind a ds)) ≡ true
  unfolding line_of
  line-digits = all_digits_lem (sealed (body a ds)) sealed-bytes

  line-length : length (line_of kind a ds) ≡ 4 + 2 * (length ds + 3)
  unfolding line_of
  line-length =
      let e = length_digits (sealed (body a ds)) in
      let f = length-append (body a ds) ((255 - sum_of (body a ds) % 256) ∷ []) in
      omega arith

  line-summed : summed_of (line_of kind a ds) ≡ true
  unfolding sum_of
  line-summed =
      let s = sum-append (body a ds) ((255 - sum_of (body a ds) % 256) ∷ []) in
      rw line-bytes (eq-eqb (sum_of (sealed (body a ds)) % 256) 255 (omega arith))

  line-kind : kind_of (line_of kind a ds) ≡ kind
  unfolding line_of
  line-kind = refl

  line_first : get_or (line_of kind a ds) 0 0 ≡ 83
  unfolding line_of
  line_first = refl

  -- the line has no fault, where its type asks no more of it
  line_clean : (last : Bool) → known kind ≡ true → cond (eqb kind 57) (eqb (length ds + 3) 3 && last) true ≡ true
      → (eqb kind 49 && ltb 65536 (a + (length ds + 3 - 3))) ≡ false → fault_of last (line_of kind a ds) ≡ Ok tt
  unfolding fault_of shaped_of
  line_clean last k e p =
      let long : leb 4 (4 + 2 * (length ds + 3)) ≡ true = le-leb 4 (4 + 2 * (length ds + 3)) (omega arith) in
      let counted : eqb (4 + 2 * (length ds + 3)) (4 + 2 * (length ds + 3)) ≡ true =
      eq-eqb (4 + 2 * (length ds + 3)) (4 + 2 * (length ds + 3)) refl in
      let room : leb 3 (length ds + 3) ≡ true = le-leb 3 (length ds + 3) (omega arith) in
      rw (line-summed, line-address, line-digits, line-count, line-length, line-kind, line_first, long, k, counted, room, e, p) refl

pub data-clean : (a : ℕ) (ds : List ℕ) → a < 65536 → length ds ≤ 252 → Bytes ds → a + length ds ≤ 65536
    → (last : Bool) → fault_of last (line_of 49 a ds) ≡ Ok tt
data-clean a ds h s b p last =
    line_clean 49 a ds h s b last refl refl (le-ltb 65536 (a + (length ds + 3 - 3)) (omega arith))

pub end_clean : (a : ℕ) → a < 65536 → fault_of true (line_of 57 a []) ≡ Ok tt
end_clean a h = line_clean 57 a [] h (omega arith) tt true refl refl refl

pub data-stored : (a : ℕ) (ds m : List ℕ) → a < 65536 → length ds ≤ 252 → Bytes ds
    → stored_of (line_of 49 a ds) m ≡ lib.Seq.sets m a ds
unfolding stored_of
data-stored a ds m h s b = rw (line-kind 49 a ds h s b, line-address 49 a ds h s b, line-data 49 a ds h s b)
