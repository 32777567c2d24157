-- Laws of the text: what stands at a place decides what stands from there on. Assumes nothing.
use mathlib.Core.Path.{◌≡◌, refl, sym, ap, ◌∙◌, fun_ext}
use mathlib.Core.Bool.{Bool, true, false, cond, ◌&&◌, not}
use mathlib.Core.List.{List, [], ◌∷◌, map}
use Prim.Native.Nat.{ℕ, ◌+◌, ◌-◌, ◌*◌, ◌%◌, ◌<◌, ◌≤◌, min}
use native.Mathlib.Nat.{mul-le-mul_right}
use native.Mathlib.Numerals.{add-one}
use native.Mathlib.Omega.{arith}
use lib.Dec.{ltb, leb, eqb}
use lib.ListN.{length, get_or, drop, drop_of_length-le, get_or-eq_default}
use lib.Seq.{drop-cons}
use Rattle.std.proofs.lemmas.List.Sums.{take_while-cons}
use borrow.Author.Tests.{leb-true, lt-ltb, le-ltb, le-leb, lt-leb, ltb-true, ltb-false, eq-eqb, ne_eqb, eqb-true}
use Rattle.word.proofs.Laws.{bool_cases}
use Rattle.std.specs.Prelude.{Ok, Err, Option, Some, None}
use Rattle.std.specs.List.{prefix_len, take_while}
use Rattle.asm_value.specs.declared.Lack.TheVariants.{Unknown}
use Rattle.asm_text.specs.declared.Name.{Name}
use Rattle.asm_text.specs.declared.Read.{Read}
use Rattle.asm_text.specs.Text.{byte_at, blank?, name_byte?, digit_of, digit?, span, after, numeral, word, same}
use Rattle.asm_text.specs.Text.{spelled_from, key_from, key_of, look_up, names_at, look_up_at, found}

clash : {X : Type 0} {b : Bool} → b ≡ true → b ≡ false → X
clash {b = b} p q = let z : ◌≡◌ {A = Bool} true false = sym p ∙ q in let e : ◌≡◌ {A = ℕ} 0 1 = cc in absurd (omega arith)

-- what was read, taken apart
pub found-same : {A : Type 0} (v w : A) (i j : ℕ) → found v i ≡ found w j → (v ≡ w) × (i ≡ j)
found-same {A = A} v w i j h =
    let e : ◌≡◌ {A = Read A} (record { value = v; next = i }) (record { value = w; next = j }) = cc in
    (ap (λ (r : Read A). r.value) e, ap (λ (r : Read A). r.next) e)

-- a test of two bounds
pub both_true : (lo b hi : ℕ) → leb lo b && leb b hi ≡ true → (lo ≤ b) × (b ≤ hi)
both_true lo b hi e = bool_cases (leb lo b)
    (λ q. (leb-true lo b q, leb-true b hi (rw q at e))) (λ q. let z : ◌≡◌ {A = Bool} false true = rw q at e in clash e (rw q))

-- by whether a place is before the end
pub place-cases : {X : Type 0} (s : List ℕ) (i : ℕ) → (i < length s → X) → (length s ≤ i → X) → X
place-cases s i f g = bool_cases (ltb i (length s)) (λ q. f (ltb-true i (length s) q)) (λ q. g (ltb-false i (length s) q))

-- a byte other than 0 stands before the end
pub byte-in : (s : List ℕ) (i : ℕ) → 0 < byte_at s i → i < length s
byte-in s i h = place-cases s i (λ k. k) (λ k. absurd (omega (arith, get_or-eq_default s 0 k)))

-- ---- bytes of a kind to which 0 does not belong
module _ (p : ℕ → Bool) where
  pub kind-in : p 0 ≡ false → (s : List ℕ) (i : ℕ) → p (byte_at s i) ≡ true → i < length s
  kind-in z s i h = place-cases s i (λ k. k) (λ k. clash h (ap p (get_or-eq_default s 0 k) ∙ z))

  pub after_more : p 0 ≡ false → (s : List ℕ) (i : ℕ) → p (byte_at s i) ≡ true → after p s (i + 1) ≡ after p s i
  unfolding after span
  after_more z s i h =
      let k : i < length s = kind-in z s i h in
      rw (add-one i, drop-cons s i 0 k, h) (omega arith)

  pub after_stop : (s : List ℕ) (i : ℕ) → p (byte_at s i) ≡ false → after p s i ≡ i
  unfolding after span
  after_stop s i h = place-cases s i
      (λ k. rw (drop-cons s i 0 k, h) (omega arith)) (λ k. rw (drop_of_length-le s k) (omega arith))

  pub after-le : (s : List ℕ) (i : ℕ) → i ≤ after p s i
  unfolding after
  after-le s i = omega arith

-- `after`, by the library's words
pub span-is : (p : ℕ → Bool) (l : List ℕ) → span p l ≡ prefix_len p l
unfolding span
span-is p [] = refl
span-is p (b ∷ l) = bool_cases (p b) (λ q. rw (q, span-is p l) (omega arith)) (λ q. rw q)

pub after-is : (p : ℕ → Bool) (s : List ℕ) (i n : ℕ) → n ≡ prefix_len p (drop i s) → i + n ≡ after p s i
unfolding after
after-is p s i n e = rw (span-is p (drop i s), e)

pub drop-upto : (s : List ℕ) (i : ℕ) → drop (min i (length s)) s ≡ drop i s
drop-upto s i = place-cases s i
    (λ k. let h : min i (length s) ≡ i = omega arith in rw h)
    (λ k. let h : min i (length s) ≡ length s = omega arith in
    let z : drop (length s) s ≡ [] = drop_of_length-le s (omega arith) in rw (h, z, drop_of_length-le s k))

-- ---- digits

some? : Option ℕ → ℕ
some? (Some x) = 1
some? None = 0

pub some-none : (x : ℕ) → Some x ≡ None → ⊥
unfolding some?
some-none x e = let h : 1 ≡ 0 = ap some? e in omega (arith, h)

pub digit-low : (b : ℕ) → 48 ≤ b → b ≤ 57 → Some (b - 48) ≡ cond (digit? 16 b) (Some (digit_of b)) None
unfolding digit? digit_of
digit-low b h k = simp (le-leb 48 b h, le-leb b 57 k, lt-ltb (b - 48) 16 (omega arith))

pub digit-high : (b : ℕ) → 65 ≤ b → b ≤ 70 → Some (b - 65 + 10) ≡ cond (digit? 16 b) (Some (digit_of b)) None
unfolding digit? digit_of
digit-high b h k = let e : b - 65 + 10 ≡ b - 55 = omega arith in
    simp (e, le-leb 48 b (omega arith), lt-leb b 57 (omega arith), le-leb 65 b h, le-leb b 70 k, lt-ltb (b - 55) 16 (omega arith))

pub digit-none : (b : ℕ) → leb 48 b && leb b 57 ≡ false → leb 65 b && leb b 70 ≡ false
    → None ≡ cond (digit? 16 b) (Some (digit_of b)) None
unfolding digit? digit_of
digit-none b h k = simp (h, k)

-- what a digit that was read says
pub some-digit : (b d : ℕ) → Some d ≡ cond (digit? 16 b) (Some (digit_of b)) None → d ≡ digit_of b
some-digit b d e = bool_cases (digit? 16 b) (λ q. let k : Some d ≡ Some (digit_of b) = rw q at e in cc)
    (λ q. let k : Some d ≡ None = rw q at e in absurd (some-none d k))

pub none-digit : (base b : ℕ) → base ≤ 16 → None ≡ cond (digit? 16 b) (Some (digit_of b)) None → base ≤ digit_of b
unfolding digit?
none-digit base b h e = bool_cases (ltb (digit_of b) 16)
    (λ q. let k : None ≡ Some (digit_of b) = rw q at e in absurd (some-none (digit_of b) (sym k)))
    (λ q. omega (arith, ltb-false (digit_of b) 16 q))

-- what the digits say, cut at 2^32
pub sat : ℕ → ℕ → List ℕ → ℕ
sat base n [] = n
sat base n (b ∷ l) = cond (digit? base b) (sat base (min (n * base + digit_of b) 4294967296) l) n

-- what is cut stays cut
cut : (base n d : ℕ) → 1 ≤ base → min (min n 4294967296 * base + d) 4294967296 ≡ min (n * base + d) 4294967296
cut base n d hb = bool_cases (ltb n 4294967296)
    (λ q. let h : n < 4294967296 = ltb-true n 4294967296 q in
    let e : min n 4294967296 ≡ n = omega arith in rw e)
    (λ q. let h : 4294967296 ≤ n = ltb-false n 4294967296 q in
    let e : min n 4294967296 ≡ 4294967296 = omega arith in
    let f : 4294967296 * base ≤ n * base = mul-le-mul_right base h in
    let g : 4294967296 * base ≤ n * base → 4294967296 ≤ n * base = λ _. omega arith in
    rw e (omega arith))

pub sat-numeral : (base : ℕ) → 1 ≤ base → (n : ℕ) (l : List ℕ) → sat base (min n 4294967296) l ≡ min (numeral base n l) 4294967296
unfolding numeral sat
sat-numeral base hb n [] = refl
sat-numeral base hb n (b ∷ l) = bool_cases (digit? base b)
    (λ q. rw q (rw (cut base n (digit_of b) hb) (sat-numeral base hb (n * base + digit_of b) l))) (λ q. rw q)

pub no_digit : (base : ℕ) → base ≤ 16 → digit? base 0 ≡ false
unfolding digit? digit_of
no_digit base h = le-ltb 16 base h

module _ (base : ℕ) (s : List ℕ) (i : ℕ) where
  pub digit-in : base ≤ 16 → digit_of (byte_at s i) < base → i < length s
  unfolding digit?
  digit-in hb h = kind-in (digit? base) (no_digit base hb) s i (lt-ltb (digit_of (byte_at s i)) base h)

  pub sat-more : (n : ℕ) → base ≤ 16 → digit_of (byte_at s i) < base
      → sat base (min (n * base + digit_of (byte_at s i)) 4294967296) (drop (i + 1) s) ≡ sat base n (drop i s)
  unfolding digit? sat
  sat-more n hb h = rw (add-one i, drop-cons s i 0 (digit-in hb h), lt-ltb (digit_of (byte_at s i)) base h)

  pub sat-stop : (n : ℕ) → base ≤ digit_of (byte_at s i) → sat base n (drop i s) ≡ n
  unfolding digit? sat
  sat-stop n h = place-cases s i
      (λ k. rw (drop-cons s i 0 k, le-ltb (digit_of (byte_at s i)) base h)) (λ k. rw (drop_of_length-le s k))

  pub digits_more : base ≤ 16 → digit_of (byte_at s i) < base → after (digit? base) s (i + 1) ≡ after (digit? base) s i
  unfolding digit?
  digits_more hb h = after_more (digit? base) (no_digit base hb) s i (lt-ltb (digit_of (byte_at s i)) base h)

  pub digits-stop : base ≤ digit_of (byte_at s i) → after (digit? base) s i ≡ i
  unfolding digit?
  digits-stop h = after_stop (digit? base) s i (le-ltb (digit_of (byte_at s i)) base h)

-- ---- names
pub blank-zero : blank? 0 ≡ false
unfolding blank?
blank-zero = refl

pub name-zero : name_byte? 0 ≡ false
unfolding name_byte?
name-zero = refl

pub word-is : (l : List ℕ) → take_while name_byte? l ≡ word l
unfolding word
word-is [] = refl
word-is (b ∷ l) = take_while-cons name_byte? b l ∙ ap (λ m. cond (name_byte? b) (b ∷ m) []) (word-is l)

-- ---- a word's spelling and key, byte by byte
module _ (w : List ℕ) (k n : ℕ) where
  pub spelled-more : k < length w → spelled_from (min (n * 256 + get_or w k 0) 281474976710656) (drop (k + 1) w) ≡ spelled_from n (drop k w)
  unfolding spelled_from
  spelled-more h = rw (add-one k, drop-cons w k 0 h)

  pub spelled-stop : length w ≤ k → spelled_from n (drop k w) ≡ n
  unfolding spelled_from
  spelled-stop h = rw (drop_of_length-le w h)

  pub key_more : k < length w → key_from ((n * 31 + get_or w k 0) % 4294967296) (drop (k + 1) w) ≡ key_from n (drop k w)
  unfolding key_from
  key_more h = rw (add-one k, drop-cons w k 0 h)

  pub key-stop : length w ≤ k → key_from n (drop k w) ≡ n
  unfolding key_from
  key-stop h = rw (drop_of_length-le w h)

-- ---- two words, byte by byte
pub word_more : (s : List ℕ) (i : ℕ) → name_byte? (byte_at s i) ≡ true → word (drop i s) ≡ byte_at s i ∷ word (drop (i + 1) s)
unfolding word
word_more s i h =
    let k : i < length s = kind-in name_byte? name-zero s i h in
    rw (add-one i, drop-cons s i 0 k, h)

pub word-stop : (s : List ℕ) (i : ℕ) → name_byte? (byte_at s i) ≡ false → word (drop i s) ≡ []
unfolding word
word-stop s i h = place-cases s i
    (λ k. rw (drop-cons s i 0 k, h)) (λ k. rw (drop_of_length-le s k))

module _ (t : List ℕ) (i : ℕ) (s : List ℕ) (j : ℕ) where
  pub same_stop : name_byte? (byte_at t i) ≡ false → same (word (drop i t)) (word (drop j s)) ≡ not (name_byte? (byte_at s j))
  unfolding same
  same_stop h = bool_cases (name_byte? (byte_at s j))
      (λ q. rw (word-stop t i h, word_more s j q, q)) (λ q. rw (word-stop t i h, word-stop s j q, q))

  pub same-other : name_byte? (byte_at t i) ≡ true → (byte_at t i ≡ byte_at s j → ⊥) → same (word (drop i t)) (word (drop j s)) ≡ false
  unfolding same
  same-other h d = bool_cases (name_byte? (byte_at s j))
      (λ q. rw (word_more t i h, word_more s j q, ne_eqb (byte_at t i) (byte_at s j) d)) (λ q. rw (word_more t i h, word-stop s j q))

  pub same_more : name_byte? (byte_at t i) ≡ true → byte_at t i ≡ byte_at s j
      → same (word (drop (i + 1) t)) (word (drop (j + 1) s)) ≡ same (word (drop i t)) (word (drop j s))
  unfolding same
  same_more h e =
      let k : name_byte? (byte_at s j) ≡ true = sym (ap name_byte? e) ∙ h in
      rw (word_more t i h, word_more s j k, eq-eqb (byte_at t i) (byte_at s j) e)

pub and_parts : (a b : Bool) → a && b ≡ true → (a ≡ true) × (b ≡ true)
and_parts true b e = (refl, e)
and_parts false b e = clash e refl

pub same-is : (a b : List ℕ) → same a b ≡ true → a ≡ b
unfolding same
same-is [] [] e = refl
same-is [] (y ∷ b) e = clash e refl
same-is (x ∷ a) [] e = clash e refl
same-is (x ∷ a) (y ∷ b) e =
    let p = and_parts (eqb x y) (same a b) e in
    ap (λ z. z ∷ a) (eqb-true x y p.0) ∙ ap (λ l. y ∷ l) (same-is a b p.1)

-- ---- the table of names
and_no : (a : Bool) → a && false ≡ false
and_no true = refl
and_no false = refl

module _ (s : List ℕ) (ms : List Name) (n : List ℕ) (k : ℕ) (d : Name) where
  pub look_hit : k < length ms → (get_or ms k d).key ≡ key_of n → same (word (drop (get_or ms k d).place s)) n ≡ true
      → look_up_at s (drop k ms) n ≡ Ok (get_or ms k d).value
  unfolding look_up_at
  look_hit h e f = rw (drop-cons ms k d h, f, eq-eqb (get_or ms k d).key (key_of n) e)

  pub look-key : k < length ms → ((get_or ms k d).key ≡ key_of n → ⊥) → look_up_at s (drop (k + 1) ms) n ≡ look_up_at s (drop k ms) n
  unfolding look_up_at
  look-key h e = rw (add-one k, drop-cons ms k d h, ne_eqb (get_or ms k d).key (key_of n) e)

  pub look-word : k < length ms → same (word (drop (get_or ms k d).place s)) n ≡ false
      → look_up_at s (drop (k + 1) ms) n ≡ look_up_at s (drop k ms) n
  unfolding look_up_at
  look-word h f = rw (add-one k, drop-cons ms k d h, f, and_no (eqb (get_or ms k d).key (key_of n)))

pub look-end : (s : List ℕ) (ms : List Name) (n : List ℕ) (k : ℕ) → length ms ≤ k → look_up_at s (drop k ms) n ≡ Err Unknown
unfolding look_up_at
look-end s ms n k h = rw (drop_of_length-le ms h)

-- each key is its name's
abbrev pub Keyed : List ℕ → List Name → Type 0
Keyed s [] = Unit
Keyed s (m ∷ ms) = (m.key ≡ key_of (word (drop m.place s))) × Keyed s ms

look-each : (s : List ℕ) (ms : List Name) (n : List ℕ) → Keyed s ms
    → look_up_at s ms n ≡ look_up (names_at s (map (λ (m : Name). m.place) ms)) (map (λ (m : Name). m.value) ms) n
unfolding look_up_at look_up names_at
look-each s [] n h = refl
look-each s (m ∷ ms) n h = bool_cases (same (word (drop m.place s)) n)
    (λ q. rw (q, eq-eqb m.key (key_of n) (h.0 ∙ ap key_of (same-is (word (drop m.place s)) n q))))
    (λ q. rw (q, and_no (eqb m.key (key_of n))) (look-each s ms n h.1))

-- where each key is its name's, a look-up by keys is a look-up by names
pub look-up-at : (s : List ℕ) (ms : List Name) → Keyed s ms
    → look_up_at s ms ≡ look_up (names_at s (map (λ (m : Name). m.place) ms)) (map (λ (m : Name). m.value) ms)
look-up-at s ms h = fun_ext (λ n. look-each s ms n h)
