-- A statement from the spellings of its parts, and bytes put one after the other. Assumes nothing.
use mathlib.Core.Path.{◌≡◌, refl, ap, ◌∙◌}
use mathlib.Core.List.{List, [], ◌∷◌, ◌++◌, append-nil, append_assoc}
use Prim.Native.Nat.{ℕ, zero, suc, ◌+◌, ◌-◌, ◌/◌, ◌%◌, ◌<◌}
use native.Mathlib.Numerals.{unary_clauses}
use native.Mathlib.Omega.{arith}
use lib.ListN.{length, length-append}
use lib.Seq.{sets}
use borrow.Author.Tests.{eq-eqb, ne_eqb}
use Rattle.std.specs.Prelude.{Some, None}
use Rattle.stores.proofs.Laws.{sets_then}
use Rattle.asm_print.specs.Print.{register_text, address_text, hex_text, with_comma, size_mark, phrase, word_text}
use Rattle.asm_spellings.specs.Spellings.{letters_of, Mnemonic, Long, Short, register_spelling, address_spelling}
use Rattle.asm_spellings.proofs.Laws.{register-short, address-short}
use Rattle.asm_printer.specs.Parts.{behind, operands_text}

-- ---- operands
behind-some : (q : ℕ) (t : List ℕ) → Short q t → behind (Some q) ≡ 44 ∷ t
unfolding behind
behind-some q t h = rw h.four

nothing-behind : (t : List ℕ) → t ++ behind None ≡ t
unfolding behind
nothing-behind t = append-nil t

pub one-operand : (a : ℕ) (t : List ℕ) → Long a t → operands_text a None None ≡ t
unfolding operands_text behind
one-operand a t h = rw h (append-nil t)

pub two_operands : (a b : ℕ) (s t : List ℕ) → Long a s → Short b t → operands_text a (Some b) None ≡ with_comma s t
unfolding operands_text
two_operands a b s t h k = rw (h, behind-some b t k) (ap (λ (l : List ℕ). s ++ (44 ∷ l)) (nothing-behind t))

pub three-operands : (a b c : ℕ) (s t u : List ℕ) → Long a s → Short b t → Short c u
    → operands_text a (Some b) (Some c) ≡ with_comma s (with_comma t u)
unfolding operands_text
three-operands a b c s t u h k l = rw (h, behind-some b t k, behind-some c u l)

pub of-register : (a r : ℕ) → a ≡ register_spelling r → r < 8 → Short a (register_text r)
of-register a r e h = rw e (register-short r h)

pub of-address : (a p d i r : ℕ) → a ≡ address_spelling p d i r → p < 2 → d < 2 → i < 2 → r < 8 → Short a (address_text p d i r)
of-address a p d i r e hp hd hi hr = rw e (address-short p d i r hp hd hi hr)

-- ---- statements
-- with the letters of a mnemonic
pub with-mnemonic : (q : ℕ) (l : List ℕ) (wb : ℕ) (s t : List ℕ) → Mnemonic q l → s ≡ phrase (letters_of 6 q) wb t → s ≡ phrase l wb t
with-mnemonic q l wb s t e h = h ∙ ap (λ (m : List ℕ). phrase m wb t) e

pub word-parts : (a w : ℕ) → Long a (hex_text 4 w)
    → letters_of 6 0x574F5244 ++ (size_mark 0 ++ (32 ∷ operands_text a None None)) ≡ word_text w
unfolding word_text letters_of
word-parts a w h = ap (λ (l : List ℕ). 87 ∷ 79 ∷ 82 ∷ 68 ∷ 32 ∷ l) (one-operand a (hex_text 4 w) h)

-- ---- bytes

-- bytes a, then bytes b behind them
pub put_then : (t t1 t2 : List ℕ) (at n1 n2 : ℕ) (a b : List ℕ) → t1 ≡ sets t at a → n1 ≡ at + length a → t2 ≡ sets t1 n1 b
    → n2 ≡ n1 + length b → (t2 ≡ sets t at (a ++ b)) × (n2 ≡ at + length (a ++ b))
put_then t t1 t2 at n1 n2 a b e1 p1 e2 p2 =
    let l = length-append a b in
    (e2 ∙ ap (λ (x : List ℕ). sets x n1 b) e1 ∙ sets_then t at n1 a b p1, omega arith)

pub letters-none : (k q : ℕ) → q ≡ 0 → letters_of k q ≡ []
unfolding letters_of
letters-none zero q e = refl
letters-none (suc k) q e = rw (eq-eqb q 0 e)

pub letters-end : (k q : ℕ) → k ≡ 0 → letters_of k q ≡ []
unfolding letters_of
letters-end k q e = rw e

pub letters-more : (k q : ℕ) → (k ≡ 0 → ⊥) → (q ≡ 0 → ⊥) → letters_of k q ≡ letters_of (k - 1) (q / 256) ++ ((q % 256) ∷ [])
unfolding letters_of
letters-more zero q h g = absurd (h refl)
letters-more (suc k) q h g = rw (ne_eqb q 0 g) (simp unary_clauses)

-- the five pieces of a statement
five : (a m l b d : List ℕ) → (((a ++ (m ++ (32 ∷ []))) ++ l) ++ b) ++ d ≡ a ++ (m ++ (32 ∷ (l ++ (b ++ d))))
five a m l b d = simp append_assoc

pub five-puts : (t t1 t2 t3 t4 t5 : List ℕ) (n1 n2 n3 n4 n5 : ℕ) (a m l b d : List ℕ)
    → t1 ≡ sets t 0 a → n1 ≡ 0 + length a
    → t2 ≡ sets t1 n1 (m ++ (32 ∷ [])) → n2 ≡ n1 + length (m ++ (32 ∷ []))
    → t3 ≡ sets t2 n2 l → n3 ≡ n2 + length l
    → t4 ≡ sets t3 n3 b → n4 ≡ n3 + length b
    → t5 ≡ sets t4 n4 d → n5 ≡ n4 + length d
    → (t5 ≡ sets t 0 (a ++ (m ++ (32 ∷ (l ++ (b ++ d)))))) × (n5 ≡ length (a ++ (m ++ (32 ∷ (l ++ (b ++ d))))))
five-puts t t1 t2 t3 t4 t5 n1 n2 n3 n4 n5 a m l b d e1 p1 e2 p2 e3 p3 e4 p4 e5 p5 =
    let k = m ++ (32 ∷ []) in
    let x2 = put_then t t1 t2 0 n1 n2 a k e1 p1 e2 p2 in
    let x3 = put_then t t2 t3 0 n2 n3 (a ++ k) l x2.0 x2.1 e3 p3 in
    let x4 = put_then t t3 t4 0 n3 n4 ((a ++ k) ++ l) b x3.0 x3.1 e4 p4 in
    let x5 = put_then t t4 t5 0 n4 n5 (((a ++ k) ++ l) ++ b) d x4.0 x4.1 e5 p5 in
    let z : 0 + length ((((a ++ k) ++ l) ++ b) ++ d) ≡ length ((((a ++ k) ++ l) ++ b) ++ d) = omega arith in
    (x5.0 ∙ ap (sets t 0) (five a m l b d), x5.1 ∙ z ∙ ap length (five a m l b d))
