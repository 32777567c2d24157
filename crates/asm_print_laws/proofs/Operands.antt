-- Operands read from what stands at a place: what is found, and what follows it. Assumes nothing.
use mathlib.Core.Path.{◌≡◌, refl, ap, ◌∙◌}
use mathlib.Core.Bool.{Bool, true, false, true≢false}
use mathlib.Core.List.{List, [], ◌∷◌, ◌++◌, append_assoc}
use Prim.Native.Nat.{ℕ, zero, suc, ◌+◌, ◌^◌, ◌<◌, ◌≤◌}
use native.Mathlib.Omega.{arith}
use lib.Dec.{eqb}
use lib.IntN.{ℤ, pos, negsuc}
use lib.ListN.{length, drop}
use lib.Signed.{mag}
use borrow.Author.Tests.{lt-ltb, ne_eqb, le-leb}
use Rattle.std.specs.Prelude.{Option, Some, None, Result, Ok}
use Rattle.asm_value.specs.declared.Lack.{Lack}
use Rattle.asm_value.specs.Value.{fitted, with_sign}
use Rattle.asm_text.specs.Text.{byte_at, blank?, letter?, name_byte?, digit?, after, numeral, word, same, found}
use Rattle.asm_text.specs.declared.Read.{Read}
use Rattle.asm_text.proofs.Laws.{after_stop}
use Rattle.asm_expr.specs.Grammar.{parsed, number, named?, digits_at, plain_at, factor_of}
use Rattle.asm_expr.specs.Meaning.{value_of, answer_of}
use Rattle.asm_expr.proofs.Laws.{factor-plain}
use Rattle.asm_operands.specs.Operands.{
  over?,
  word_said,
  register_at,
  condition_at,
  flags_at,
  width_at,
  value_at,
  nameless?,
  number?,
  comma?,
}
use Rattle.asm_operands.specs.Operands.{comma_register, comma_value, addressed, changed_before, changed_after, address_at}
use Rattle.asm_operands.specs.declared.Address.{Address}
use Rattle.text.specs.Text.{hex_of, decimal_of}
use Rattle.asm_words.specs.Words.{meaning, registers, register_of, condition_of, flags_of}
use Rattle.asm_print.specs.Print.{condition_text, register_text, number_text, hex_text, flags_text, address_text, idle?, size_mark}
use Rattle.asm_print_laws.proofs.Here.{Ends, low-name, low_digit, word-all, numeral-all, first_of, first-all, here-past}
use Rattle.asm_print_laws.proofs.Here.{here-one, here-byte, here_end, here-after, Begins, begins, begins-blank}
use Rattle.asm_print_laws.proofs.Pieces.{Spells, Digits, register-spells, condition-spells, flags-spells, decimal-digits, hex-digits}

-- n is found, and t follows it
pub record FoundAt (s t : List ℕ) (f : Option (Read ℕ)) (n : ℕ) : Type 0 where
  pub place : ℕ
  pub is : f ≡ found n place
  pub here : drop place s ≡ t

-- z is the value, and t follows it
pub record ValueAt (s t : List ℕ) (a : Option (Read (Result ℤ Lack))) (z : ℤ) : Type 0 where
  pub place : ℕ
  pub is : a ≡ found (Ok z) place
  pub here : drop place s ≡ t

-- ---- words
module _ (s : List ℕ) (i : ℕ) (t : List ℕ) (e : Ends t) where
  word_read : (which : List ℕ → Option ℕ) (l : List ℕ) (n : ℕ) → Spells which l (Some n) → Begins s i (l ++ t)
      → FoundAt s t (word_said which s i) n
  unfolding word_said
  word_read which l n h b =
      let j = after blank? s i in
      let w : which (word (drop j s)) ≡ Some n =
      ap (λ (x : List ℕ). which (word x)) b ∙ ap which (word-all l t h.names e) ∙ h.is in
      let a : after name_byte? s j ≡ j + length l = here-after s j name_byte? l t b h.names (low-name (byte_at t 0) e) in
      record { place = j + length l; is = rw (w, a); here = here-past s j l t b }

  pub register-read : (r : ℕ) → r < 8 → Begins s i (register_text r ++ t) → FoundAt s t (register_at s i) r
  unfolding register_at
  register-read r h b = word_read register_of (register_text r) r (register-spells r h) b

  pub condition-read : (c : ℕ) → c < 16 → Begins s i (condition_text c ++ t) → FoundAt s t (condition_at s i) c
  unfolding condition_at
  condition-read c h b = word_read condition_of (condition_text c) c (condition-spells c h) b

  pub flags-read : (f : ℕ) → f < 31 → Begins s i (flags_text (suc f) ++ t) → FoundAt s t (flags_at s i) (suc f)
  unfolding flags_at
  flags-read f h b = word_read flags_of (flags_text (suc f)) (suc f) (flags-spells f h) b

-- ---- numbers
digits-read : (negative : Bool) (base : ℕ) (s : List ℕ) (i : ℕ) (l t : List ℕ) (n : ℕ) → base ≤ 16 → Digits base l n → Ends t
    → drop i s ≡ l ++ t → digits_at negative base s i ≡ parsed (number (with_sign negative n)) (i + length l)
unfolding digits_at
digits-read negative base s i l t n k h e b =
    let f = h.first in
    let d : digit? base (byte_at s i) ≡ true =
    ap (digit? base) (here-byte s i (l ++ t) b ∙ first_of l t (omega arith)) ∙ first-all (digit? base) l h.digits (omega arith) in
    let a : after (digit? base) s i ≡ i + length l =
    here-after s i (digit? base) l t b h.digits (low_digit base (byte_at t 0) k e) in
    let c : numeral base 0 (drop i s) ≡ n = ap (numeral base 0) b ∙ numeral-all base 0 l t k h.digits e ∙ h.says in
    rw (d, a, c)

fits : (z : ℤ) → mag z < 2147483648 → fitted z ≡ Ok z
unfolding fitted
fits z h = rw (lt-ltb (mag z) 2147483648 h)

-- a number in base sixteen
module _ (s : List ℕ) (i : ℕ) (t : List ℕ) (e : Ends t) where
  hex-parsed : (k n : ℕ) → n < 16 ^ suc k → Begins s i (hex_text (suc k) n ++ t)
      → factor_of 16 s i ≡ parsed (number (pos n)) (after blank? s i + 1 + length (hex_of (suc k) n))
  unfolding plain_at letter? hex_text
  hex-parsed k n h b =
      let j = after blank? s i in
      let l = hex_of (suc k) n in
      let c : byte_at s j ≡ 36 = here-byte s j (36 ∷ (l ++ t)) b in
      let d : drop (j + 1) s ≡ l ++ t = here-one s j 36 (l ++ t) b in
      factor-plain 16 s i (λ q. omega (arith, q, c))
      ∙ rw c (digits-read false 16 s (j + 1) l t n (omega arith) (hex-digits k n h) e d)

  -- is one in which no name stands
  hex-nameless : (k n : ℕ) → n < 16 ^ suc k → Begins s i (hex_text (suc k) n ++ t) → number? s i ≡ true
  unfolding number? nameless? named?
  hex-nameless k n h b = ap nameless? (hex-parsed k n h b)

module _ (look : List ℕ → Result ℤ Lack) (s : List ℕ) (i : ℕ) (t : List ℕ) (e : Ends t) where
  pub hex-read : (k n : ℕ) → n < 16 ^ suc k → n < 65536 → Begins s i (hex_text (suc k) n ++ t) → ValueAt s t (value_at look s i) (pos n)
  unfolding value_at hex_text answer_of value_of
  hex-read k n h g b =
      let j = after blank? s i in
      let l = hex_of (suc k) n in
      let d : drop (j + 1) s ≡ l ++ t = here-one s j 36 (l ++ t) b in
      record {
        place = j + 1 + length l;
        is = ap (answer_of look) (hex-parsed s i t e k n h b)
            ∙ ap (λ (v : Result ℤ Lack). found v (j + 1 + length l)) (fits (pos n) (omega arith));
        here = here-past s (j + 1) l t d;
      }

  pub number_read : (z : ℤ) → mag z < 99 → Begins s i (number_text z ++ t) → ValueAt s t (value_at look s i) z
  unfolding value_at plain_at letter? number_text answer_of value_of
  number_read (pos n) h b =
      let j = after blank? s i in
      let l = decimal_of 1 n in
      let g = decimal-digits n (omega arith) in
      let c : byte_at s j ≡ 35 = here-byte s j (35 ∷ (l ++ t)) b in
      let d : drop (j + 1) s ≡ l ++ t = here-one s j 35 (l ++ t) b in
      let f : byte_at s (j + 1) ≡ byte_at l 0 = here-byte s (j + 1) (l ++ t) d ∙ first_of l t (let k = g.first in omega arith) in
      let m : eqb (byte_at s (j + 1)) 45 ≡ false = ne_eqb (byte_at s (j + 1)) 45 (λ q. let k = g.first in omega arith) in
      let p : factor_of 16 s i ≡ plain_at s j = factor-plain 16 s i (λ q. omega (arith, q, c)) in
      let q : plain_at s j ≡ parsed (number (pos n)) (j + 1 + length l) =
      rw (c, m) (digits-read false 10 s (j + 1) l t n (omega arith) g e d) in
      record {
        place = j + 1 + length l;
        is = ap (answer_of look) (p ∙ q) ∙ ap (λ (v : Result ℤ Lack). found v (j + 1 + length l)) (fits (pos n) (omega arith));
        here = here-past s (j + 1) l t d;
      }
  number_read (negsuc n) h b =
      let j = after blank? s i in
      let l = decimal_of 1 (suc n) in
      let g = decimal-digits (suc n) (omega arith) in
      let c : byte_at s j ≡ 35 = here-byte s j (35 ∷ 45 ∷ (l ++ t)) b in
      let f : byte_at s (j + 1) ≡ 45 = here-byte s (j + 1) (45 ∷ (l ++ t)) (here-one s j 35 (45 ∷ (l ++ t)) b) in
      let d : drop (j + 2) s ≡ l ++ t = here-past s j (35 ∷ 45 ∷ []) (l ++ t) b in
      let p : factor_of 16 s i ≡ plain_at s j = factor-plain 16 s i (λ q. omega (arith, q, c)) in
      let q : plain_at s j ≡ parsed (number (negsuc n)) (j + 2 + length l) =
      rw (c, f) (digits-read true 10 s (j + 2) l t (suc n) (omega arith) g e d) in
      record {
        place = j + 2 + length l;
        is = ap (answer_of look) (p ∙ q) ∙ ap (λ (v : Result ℤ Lack). found v (j + 2 + length l)) (fits (negsuc n) (omega arith));
        here = here-past s (j + 2) l t d;
      }

-- ---- after a blank or a comma

-- a byte above the blank is none
pub solid : (b : ℕ) → 32 < b → blank? b ≡ false
unfolding blank?
solid b h = rw (ne_eqb b 32 (λ q. omega arith), ne_eqb b 9 (λ q. omega arith))

pub register-solid : (r : ℕ) (t : List ℕ) → r < 8 → blank? (byte_at (register_text r ++ t) 0) ≡ false
register-solid r t h =
    let f = (register-spells r h).first in
    ap blank? (first_of (register_text r) t (omega arith)) ∙ solid (byte_at (register_text r) 0) (omega arith)

condition-solid : (c : ℕ) (t : List ℕ) → c < 16 → blank? (byte_at (condition_text c ++ t) 0) ≡ false
condition-solid c t h =
    let f = (condition-spells c h).first in
    ap blank? (first_of (condition_text c) t (omega arith)) ∙ solid (byte_at (condition_text c) 0) (omega arith)

flags-solid : (f : ℕ) (t : List ℕ) → f < 31 → blank? (byte_at (flags_text (suc f) ++ t) 0) ≡ false
flags-solid f t h =
    let k = (flags-spells f h).first in
    ap blank? (first_of (flags_text (suc f)) t (omega arith)) ∙ solid (byte_at (flags_text (suc f)) 0) (omega arith)

number-solid : (z : ℤ) (t : List ℕ) → blank? (byte_at (number_text z ++ t) 0) ≡ false
unfolding number_text blank?
number-solid (pos n) t = refl
number-solid (negsuc n) t = refl

module _ (s : List ℕ) (i : ℕ) (t : List ℕ) (e : Ends t) where
  pub first-register : (r : ℕ) → r < 8 → drop i s ≡ 32 ∷ (register_text r ++ t) → FoundAt s t (register_at s i) r
  first-register r h b =
      register-read s i t e r h (begins-blank s i (register_text r ++ t) b (register-solid r t h))

  pub next-register : (r : ℕ) → r < 8 → drop i s ≡ register_text r ++ t → FoundAt s t (register_at s i) r
  next-register r h b = register-read s i t e r h (begins s i (register_text r ++ t) b (register-solid r t h))

  pub first-condition : (c : ℕ) → c < 16 → drop i s ≡ 32 ∷ (condition_text c ++ t) → FoundAt s t (condition_at s i) c
  first-condition c h b =
      condition-read s i t e c h (begins-blank s i (condition_text c ++ t) b (condition-solid c t h))

  pub first-flags : (f : ℕ) → f < 31 → drop i s ≡ 32 ∷ (flags_text (suc f) ++ t) → FoundAt s t (flags_at s i) (suc f)
  first-flags f h b = flags-read s i t e f h (begins-blank s i (flags_text (suc f) ++ t) b (flags-solid f t h))

module _ (look : List ℕ → Result ℤ Lack) (s : List ℕ) (i : ℕ) (t : List ℕ) (e : Ends t) where
  pub first-number : (z : ℤ) → mag z < 99 → drop i s ≡ 32 ∷ (number_text z ++ t) → ValueAt s t (value_at look s i) z
  first-number z h b = number_read look s i t e z h (begins-blank s i (number_text z ++ t) b (number-solid z t))

  pub first-hex : (k n : ℕ) → n < 16 ^ suc k → n < 65536 → drop i s ≡ 32 ∷ (hex_text (suc k) n ++ t)
      → ValueAt s t (value_at look s i) (pos n)
  unfolding hex_text blank?
  first-hex k n h g b = hex-read look s i t e k n h g (begins-blank s i (hex_text (suc k) n ++ t) b refl)

pub first-hex-nameless : (s : List ℕ) (i : ℕ) (t : List ℕ) → Ends t → (k n : ℕ) → n < 16 ^ suc k
    → drop i s ≡ 32 ∷ (hex_text (suc k) n ++ t) → number? s i ≡ true
unfolding hex_text blank?
first-hex-nameless s i t e k n h b = hex-nameless s i t e k n h (begins-blank s i (hex_text (suc k) n ++ t) b refl)

-- a comma, and what follows it
pub comma-read : (s : List ℕ) (i : ℕ) (t : List ℕ) → drop i s ≡ 44 ∷ t → (comma? s i ≡ true) × (drop (after blank? s i + 1) s ≡ t)
unfolding comma? blank?
comma-read s i t h =
    let b : byte_at s i ≡ 44 = here-byte s i (44 ∷ t) h in
    let a : after blank? s i ≡ i = after_stop blank? s i (ap blank? b) in
    (rw (a, b), ap (λ (n : ℕ). drop (n + 1) s) a ∙ here-one s i 44 t h)

module _ (s : List ℕ) (i : ℕ) (t : List ℕ) (e : Ends t) where
  pub comma-register : (r : ℕ) → r < 8 → drop i s ≡ 44 ∷ (register_text r ++ t) → FoundAt s t (comma_register s i) r
  unfolding comma_register
  comma-register r h b =
      let c = comma-read s i (register_text r ++ t) b in
      let f = next-register s (after blank? s i + 1) t e r h c.1 in
      record { place = f.place; is = rw c.0 f.is; here = f.here }

  pub comma-number : (look : List ℕ → Result ℤ Lack) (z : ℤ) → mag z < 99 → drop i s ≡ 44 ∷ (number_text z ++ t)
      → ValueAt s t (comma_value look s i) z
  unfolding comma_value
  comma-number look z h b =
      let c = comma-read s i (number_text z ++ t) b in
      let j = after blank? s i + 1 in
      let f = number_read look s j t e z h (begins s j (number_text z ++ t) c.1 (number-solid z t)) in
      record { place = f.place; is = rw c.0 f.is; here = f.here }

-- no register stands where a number does
pub register-none : (s : List ℕ) (i : ℕ) (z : ℤ) (t : List ℕ) → drop i s ≡ 32 ∷ (number_text z ++ t) → register_at s i ≡ None
unfolding register_at word_said number_text register_of registers meaning same name_byte? blank? word
register-none s i (pos n) t h =
    let b = begins-blank s i (35 ∷ (decimal_of 1 n ++ t)) h refl in
    rw b
register-none s i (negsuc n) t h =
    let b = begins-blank s i (35 ∷ 45 ∷ (decimal_of 1 (suc n) ++ t)) h refl in
    rw b

-- the end of the line
pub over-end : (s : List ℕ) (i : ℕ) → drop i s ≡ [] → over? s (after blank? s i) ≡ true
unfolding over? blank?
over-end s i h =
    let a : after blank? s i ≡ i = after_stop blank? s i (ap blank? (here-byte s i [] h)) in
    rw (a, le-leb (length s) i (here_end s i h))

-- .B or nothing, and a blank
pub width_read : (s : List ℕ) (i wb : ℕ) (t : List ℕ) → wb < 2 → drop i s ≡ size_mark wb ++ (32 ∷ t) → FoundAt s (32 ∷ t) (width_at s i) wb
unfolding width_at name_byte?
width_read s i zero t h b =
    let c : byte_at s i ≡ 32 = here-byte s i (32 ∷ t) b in
    record { place = i; is = rw c; here = b }
width_read s i (suc zero) t h b =
    let c : byte_at s i ≡ 46 = here-byte s i (46 ∷ 66 ∷ 32 ∷ t) b in
    let d : byte_at s (i + 1) ≡ 66 = here-byte s (i + 1) (66 ∷ 32 ∷ t) (here-one s i 46 (66 ∷ 32 ∷ t) b) in
    let p : drop (i + 2) s ≡ 32 ∷ t = here-past s i (46 ∷ 66 ∷ []) (32 ∷ t) b in
    let f : byte_at s (i + 2) ≡ 32 = here-byte s (i + 2) (32 ∷ t) p in
    record { place = i + 2; is = rw (c, d, f); here = p }
width_read s i (suc (suc n)) t h b = absurd (omega (arith, h))

-- ---- the address of LD and ST
pub record AddressAt (s t : List ℕ) (a : Option (Read Address)) (prpo dec inc r : ℕ) : Type 0 where
  pub place : ℕ
  pub is : a ≡ addressed prpo dec inc r place
  pub here : drop place s ≡ t

-- neither a blank nor + nor -
pub record Clear (t : List ℕ) : Type 0 where
  pub ends : Ends t
  pub blank : blank? (byte_at t 0) ≡ false
  pub plus : eqb (byte_at t 0) 43 ≡ false
  pub minus : eqb (byte_at t 0) 45 ≡ false

module _ (s : List ℕ) (i : ℕ) (t : List ℕ) (e : Clear t) (r : ℕ) (hr : r < 8) where
  first_plain : (k : List ℕ) → Begins s i (register_text r ++ k)
      → (eqb (byte_at s (after blank? s i)) 43 ≡ false) × (eqb (byte_at s (after blank? s i)) 45 ≡ false)
  first_plain k b =
      let j = after blank? s i in
      let f = (register-spells r hr).first in
      let c : byte_at s j ≡ byte_at (register_text r) 0 =
      here-byte s j (register_text r ++ k) b ∙ first_of (register_text r) k (omega arith) in
      (ne_eqb (byte_at s j) 43 (λ q. omega arith), ne_eqb (byte_at s j) 45 (λ q. omega arith))

  address_plain : Begins s i (register_text r ++ t) → AddressAt s t (address_at s i) 0 0 0 r
  unfolding address_at changed_after
  address_plain b =
      let p = first_plain t b in
      let f = register-read s i t e.ends r hr b in
      let k = f.place in
      let c : byte_at s k ≡ byte_at t 0 = here-byte s k t f.here in
      let a : after blank? s k ≡ k = after_stop blank? s k (ap blank? c ∙ e.blank) in
      record { place = k; is = rw (p.0, p.1, f.is, a, c, e.plus, e.minus); here = f.here }

  address-after : (sign : ℕ) → Begins s i (register_text r ++ (sign ∷ t)) → sign < 48 → blank? sign ≡ false
      → (k : ℕ) × (address_at s i ≡ changed_after s (found r k)) × (after blank? s k ≡ k) × (byte_at s k ≡ sign) × (drop (k + 1) s ≡ t)
  unfolding address_at
  address-after sign b h n =
      let p = first_plain (sign ∷ t) b in
      let f = register-read s i (sign ∷ t) h r hr b in
      let k = f.place in
      let c : byte_at s k ≡ sign = here-byte s k (sign ∷ t) f.here in
      (k, rw (p.0, p.1, f.is), after_stop blank? s k (ap blank? c ∙ n), c, here-one s k sign t f.here)

  address-before : (sign dec inc : ℕ) → Begins s i (sign ∷ (register_text r ++ t))
      → address_at s i ≡ changed_before dec inc (register_at s (after blank? s i + 1)) → AddressAt s t (address_at s i) 1 dec inc r
  address-before sign dec inc b h =
      let j = after blank? s i in
      let f = next-register s (j + 1) t e.ends r hr (here-one s j sign (register_text r ++ t) b) in
      record { place = f.place; is = h ∙ ap (changed_before dec inc) f.is; here = f.here }

pub address_read : (s : List ℕ) (i : ℕ) (t : List ℕ) → Clear t → (prpo dec inc r : ℕ) → prpo < 2 → dec < 2 → inc < 2 → r < 8
    → idle? prpo dec inc ≡ false → Begins s i (address_text prpo dec inc r ++ t) → AddressAt s t (address_at s i) prpo dec inc r
unfolding address_text address_at changed_after blank?
address_read s i t e zero zero zero r hp hd hi hr n b = address_plain s i t e r hr b
address_read s i t e zero zero (suc zero) r hp hd hi hr n b =
    let a = address-after s i t e r hr 43 (b ∙ append_assoc (register_text r) (43 ∷ []) t) (omega arith) refl in
    record { place = a.0 + 1; is = a.1 ∙ rw (a.2, a.3); here = a.4 }
address_read s i t e zero (suc zero) zero r hp hd hi hr n b =
    let a = address-after s i t e r hr 45 (b ∙ append_assoc (register_text r) (45 ∷ []) t) (omega arith) refl in
    record { place = a.0 + 1; is = a.1 ∙ rw (a.2, a.3); here = a.4 }
address_read s i t e zero (suc zero) (suc zero) r hp hd hi hr n b = absurd (true≢false n)
address_read s i t e (suc zero) zero zero r hp hd hi hr n b = absurd (true≢false n)
address_read s i t e (suc zero) zero (suc zero) r hp hd hi hr n b =
    address-before s i t e r hr 43 0 1 b (rw (here-byte s (after blank? s i) (43 ∷ (register_text r ++ t)) b))
address_read s i t e (suc zero) (suc zero) zero r hp hd hi hr n b =
    address-before s i t e r hr 45 1 0 b (rw (here-byte s (after blank? s i) (45 ∷ (register_text r ++ t)) b))
address_read s i t e (suc zero) (suc zero) (suc zero) r hp hd hi hr n b = absurd (true≢false n)
address_read s i t e (suc (suc p)) dec inc r hp hd hi hr n b = absurd (omega (arith, hp))
address_read s i t e zero (suc (suc d)) inc r hp hd hi hr n b = absurd (omega (arith, hd))
address_read s i t e (suc zero) (suc (suc d)) inc r hp hd hi hr n b = absurd (omega (arith, hd))
address_read s i t e zero zero (suc (suc c)) r hp hd hi hr n b = absurd (omega (arith, hi))
address_read s i t e zero (suc zero) (suc (suc c)) r hp hd hi hr n b = absurd (omega (arith, hi))
address_read s i t e (suc zero) zero (suc (suc c)) r hp hd hi hr n b = absurd (omega (arith, hi))
address_read s i t e (suc zero) (suc zero) (suc (suc c)) r hp hd hi hr n b = absurd (omega (arith, hi))
