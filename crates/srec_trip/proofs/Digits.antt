-- Digits written and read back. A digit below ten is written as 0 to 9, any other as A to F, and each of these is read as its value; so the
-- two digits of a byte are read as the byte, and the digits of a list as the list. Assumes nothing.
use Prim.Native.Nat.{ℕ, zero, suc, ◌+◌, ◌-◌, ◌*◌, ◌/◌, ◌%◌, ◌≤◌, ◌<◌}
use mathlib.Core.Path.{◌≡◌, refl, ap, ◌∙◌}
use mathlib.Core.Bool.{true, false}
use mathlib.Core.List.{List, [], ◌∷◌, ◌++◌}
use native.Mathlib.Omega.{arith}
use lib.Dec.{ltb}
use lib.ListN.{take, drop}
use borrow.Author.Tests.{lt-ltb, le-ltb, ltb-true, ltb-false}
use Rattle.word.proofs.Laws.{bool_cases}
use Rattle.text.specs.Text.{glyph}
use Rattle.text_lines.proofs.Laws.{Plain}
use Rattle.srec.specs.Digits.{digits_of, digit_of, is_digit, all_digits, pairs_of, sum_of}
use Rattle.srec_trip.specs.Trip.{Bytes}

-- ---- one digit

low : (d : ℕ) → ltb d 10 ≡ true → glyph d ≡ 48 + d
low d q = rw q

high : (d : ℕ) → ltb d 10 ≡ false → glyph d ≡ 55 + d
high d q = rw q

digit_low : (x : ℕ) → 48 ≤ x → x < 58 → (digit_of x ≡ x - 48) × (is_digit x ≡ true)
unfolding digit_of is_digit
digit_low x h k = (rw (le-ltb x 48 h, lt-ltb x 58 k), rw (le-ltb x 48 h, lt-ltb x 58 k))

digit-high : (x : ℕ) → 65 ≤ x → x < 71 → (digit_of x ≡ x - 55) × (is_digit x ≡ true)
unfolding digit_of is_digit
digit-high x h k =
    let a = le-ltb x 48 (omega arith) in
    let b = le-ltb x 58 (omega arith) in
    let e = le-ltb x 65 (omega arith) in
    let f = lt-ltb x 71 (omega arith) in
    (rw (a, b, e, f), rw (a, b, e, f))

pub record Digit (d : ℕ) : Type 0 where
  pub value : digit_of (glyph d) ≡ d
  pub digit : is_digit (glyph d) ≡ true
  pub plain : 31 < glyph d

pub glyph-digit : (d : ℕ) → d < 16 → Digit d
glyph-digit d h =
    bool_cases (ltb d 10)
    (λ q.
    let k : d < 10 = ltb-true d 10 q in
    let e = low d q in
    let f = digit_low (48 + d) (omega arith) (omega arith) in
    let v : 48 + d - 48 ≡ d = omega arith in
    record { value = ap digit_of e ∙ f.0 ∙ v; digit = ap is_digit e ∙ f.1; plain = omega arith })
    (λ q.
    let k : 10 ≤ d = ltb-false d 10 q in
    let e = high d q in
    let f = digit-high (55 + d) (omega arith) (omega arith) in
    let v : 55 + d - 55 ≡ d = omega arith in
    record { value = ap digit_of e ∙ f.0 ∙ v; digit = ap is_digit e ∙ f.1; plain = omega arith })

-- ---- digits of bytes

pub pairs-digits : (bs : List ℕ) → Bytes bs → pairs_of (digits_of bs) ≡ bs
unfolding pairs_of digits_of
pairs-digits [] h = refl
pairs-digits (b ∷ bs) h =
    let k : b < 256 = h.0 in
    let p = (glyph-digit (b / 16) (omega arith)).value in
    let q = (glyph-digit (b % 16) (omega arith)).value in
    let v : 16 * digit_of (glyph (b / 16)) + digit_of (glyph (b % 16)) ≡ b = omega arith in
    ap (λ (x : ℕ). x ∷ pairs_of (digits_of bs)) v ∙ ap (λ (t : List ℕ). b ∷ t) (pairs-digits bs h.1)

pub all_digits_lem : (bs : List ℕ) → Bytes bs → all_digits (digits_of bs) ≡ true
unfolding all_digits digits_of
all_digits_lem [] h = refl
all_digits_lem (b ∷ bs) h =
    let k : b < 256 = h.0 in
    rw ((glyph-digit (b / 16) (omega arith)).digit, (glyph-digit (b % 16) (omega arith)).digit) (all_digits_lem bs h.1)

pub plain-digits : (bs : List ℕ) → Bytes bs → Plain (digits_of bs)
unfolding digits_of
plain-digits [] h = tt
plain-digits (b ∷ bs) h =
    let k : b < 256 = h.0 in
    ((glyph-digit (b / 16) (omega arith)).plain, ((glyph-digit (b % 16) (omega arith)).plain, plain-digits bs h.1))

-- ---- bytes

pub bytes-append : (a b : List ℕ) → Bytes a → Bytes b → Bytes (a ++ b)
bytes-append [] b h k = k
bytes-append (x ∷ a) b h k = (h.0, bytes-append a b h.1 k)

pub bytes_take : (n : ℕ) (l : List ℕ) → Bytes l → Bytes (take n l)
bytes_take zero l h = tt
bytes_take (suc n) [] h = tt
bytes_take (suc n) (x ∷ l) h = (h.0, bytes_take n l h.1)

pub bytes_drop : (n : ℕ) (l : List ℕ) → Bytes l → Bytes (drop n l)
bytes_drop zero l h = h
bytes_drop (suc n) [] h = tt
bytes_drop (suc n) (x ∷ l) h = bytes_drop n l h.1

pub sum-append : (a b : List ℕ) → sum_of (a ++ b) ≡ sum_of a + sum_of b
unfolding sum_of
sum-append [] b = omega arith
sum-append (x ∷ a) b = let e = sum-append a b in omega arith
