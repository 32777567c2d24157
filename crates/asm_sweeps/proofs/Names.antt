-- Laws of the table of names: a name given, and a line's name read in the source. Assumes nothing.
use mathlib.Core.Path.{◌≡◌, refl, sym, ap, ◌∙◌}
use mathlib.Core.Bool.{Bool, true, false, cond, ◌||◌}
use mathlib.Core.List.{List, [], ◌∷◌, ◌++◌, map}
use Prim.Native.Nat.{ℕ, zero, suc, ◌+◌, ◌-◌, ◌<◌, ◌≤◌}
use native.Mathlib.Numerals.{add-one}
use native.Mathlib.Nat.{zero-add}
use native.Mathlib.Omega.{arith}
use lib.Dec.{leb, eqb}
use lib.IntN.{ℤ, pos}
use lib.ListN.{length, take, drop, set, get_or, length-set, length-map, length-drop}
use lib.Seq.{take-suc-set, length-take-le, drop-drop, get_or-drop}
use borrow.Author.Tests.{le-leb, lt-leb, eqb-true}
use Rattle.std.specs.Prelude.{Result, Ok, Err}
use Rattle.std.specs.Result.{is_ok, result_unwrap_or}
use Rattle.text_lines.specs.Lines.{lines_of, LineAt, starts_lf, starts_cr_lf, onto, none}
use Rattle.text_lines.proofs.Laws.{lines_none}
use Rattle.asm_value.specs.declared.Lack.{Lack}
use Rattle.asm_value.specs.declared.Lack.TheVariants.{Unknown, Outside}
use Rattle.asm_text.specs.declared.Name.{Name}
use Rattle.asm_text.specs.Text.{word, key_of, name_byte?, names_at, look_up, look_up_at}
use Rattle.asm_text.proofs.Laws.{Keyed, look-up-at, name-zero}
use Rattle.word.proofs.Laws.{bool_cases}
use Rattle.asm_sweeps.specs.declared.Tally.{Tally}
use Rattle.asm_sweeps.specs.Places.{Table, table, note_unknown, note_fault, one_more, known?, stored_of, named_of}
use Rattle.asm_sweeps.specs.Held.{table_at, Holds, line_at, Apart}

-- ---- lists
map-append : {A B : Type 0} (f : A → B) (xs ys : List A) → map f (xs ++ ys) ≡ map f xs ++ map f ys
map-append f [] ys = refl
map-append f (x ∷ xs) ys = ap (λ l. f x ∷ l) (map-append f xs ys)

-- ---- a word of the line is that of the source
word-take : (k : ℕ) (u : List ℕ) → name_byte? (get_or u k 0) ≡ false → word (take k u) ≡ word u
unfolding word
word-take zero [] h = refl
word-take zero (b ∷ t) h = rw h
word-take (suc k) [] h = refl
word-take (suc k) (b ∷ t) h = ap (λ w. cond (name_byte? b) (b ∷ w) []) (word-take k t h)

nil-take : (n : ℕ) → take {A = ℕ} n [] ≡ []
nil-take zero = refl
nil-take (suc n) = refl

drop-take : (q k : ℕ) (u : List ℕ) → drop q (take (q + k) u) ≡ take k (drop q u)
drop-take zero k u = ap (λ (j : ℕ). take j u) (zero-add k)
drop-take (suc q) k [] = ap (drop (suc q)) (nil-take (suc q + k)) ∙ sym (nil-take k)
drop-take (suc q) k (b ∷ t) =
    let e : suc q + k ≡ suc (q + k) = omega arith in
    ap (λ (j : ℕ). drop (suc q) (take j (b ∷ t))) e ∙ drop-take q k t

pub line_word : (s : List ℕ) (at stop q : ℕ) → Apart s at stop → at + q ≤ stop
    → word (drop (at + q) s) ≡ word (drop q (line_at s at stop))
line_word s at stop q h k =
    let d : stop - at ≡ q + (stop - at - q) = omega (arith, h.from) in
    let e : at + q + (stop - at - q) ≡ stop = omega (arith, h.from) in
    let u = drop (at + q) s in
    let z : name_byte? (get_or u (stop - at - q) 0) ≡ false =
    ap name_byte? (get_or-drop (at + q) s (stop - at - q) 0 ∙ ap (λ (i : ℕ). get_or s i 0) e) ∙ h.ends in
    sym (word-take (stop - at - q) u z)
    ∙ ap (λ (l : List ℕ). word (take (stop - at - q) l)) (sym (drop-drop q at s))
    ∙ ap word (sym (drop-take q (stop - at - q) (drop at s)))
    ∙ ap (λ (j : ℕ). word (drop q (take j (drop at s)))) (sym d)

-- ---- a name given

-- what is noted changes no count
pub note-count : {A : Type 0} (r : Result A Lack) (t : Tally) → (note_fault r t).count ≡ t.count
note-count (Ok z) t = refl
note-count (Err Unknown) t = refl
note-count (Err Outside) t = refl

pub note-line : {A : Type 0} (r : Result A Lack) (t : Tally) → (note_fault r t).line ≡ t.line
note-line (Ok z) t = refl
note-line (Err Unknown) t = refl
note-line (Err Outside) t = refl

-- the words of the library
pub known-is : (v : Result ℤ Lack) → is_ok v ≡ known? v
known-is (Ok z) = refl
known-is (Err e) = refl

pub stored-is : (v : Result ℤ Lack) → result_unwrap_or v (pos 0) ≡ stored_of v
stored-is (Ok z) = refl
stored-is (Err e) = refl

abbrev head : List ℕ → ℕ
head [] = 0
head (x ∷ xs) = x

abbrev tail : List ℕ → List ℕ
tail [] = []
tail (x ∷ xs) = xs

-- each key is its name's
keyed-of : (s : List ℕ) (ms : List Name) → map (λ (m : Name). m.key) ms ≡ map (λ (m : Name). key_of (word (drop m.place s))) ms
    → Keyed s ms
keyed-of s [] e = tt
keyed-of s (m ∷ ms) e = (ap head e, keyed-of s ms (ap tail e))

-- the same array with another tally of as many names
pub holds_as : (s : List ℕ) (ms : List Name) (t u : Tally) → u.count ≡ t.count → Holds s ms t → Holds s ms u
holds_as s ms t u e h = record {
  size = h.size;
  within = omega (arith, e, h.within);
  keyed =
      ap (λ (n : ℕ). map (λ (m : Name). m.key) (take n ms)) e
      ∙ h.keyed
      ∙ ap (λ (n : ℕ). map (λ (m : Name). key_of (word (drop m.place s))) (take n ms)) (sym e);
}

module _ (s : List ℕ) (ms : List Name) (t : Tally) (h : Holds s ms t) where
  -- the names of the table as the code looks them up
  pub look-held : look_up_at s (take t.count ms) ≡ look_up (table_at s ms t).names (table_at s ms t).values
  look-held = look-up-at s (take t.count ms) (keyed-of s (take t.count ms) h.keyed)

  names-length : length (table_at s ms t).names ≡ t.count
  unfolding names_at
  names-length =
      length-map (map (λ (m : Name). m.place) (take t.count ms)) (λ (p : ℕ). word (drop p s))
      ∙ length-map (take t.count ms) (λ (m : Name). m.place)
      ∙ length-take-le t.count ms (omega (arith, h.size, h.within))

  module _ (n : List ℕ) (v old : Result ℤ Lack) (eo : old ≡ look_up_at s (take t.count ms) n) where
    found : look_up (table_at s ms t).names (table_at s ms t).values n ≡ old
    found = sym (eo ∙ ap (λ (f : List ℕ → Result ℤ Lack). f n) look-held)

    refused : Table
    refused = table_at s ms (note_unknown t)

    added : Table
    added =
        table ((table_at s ms t).names ++ (n ∷ [])) ((table_at s ms t).values ++ (stored_of v ∷ []))
        (one_more (note_fault v t))

    pub give-known : known? old ≡ true → table_at s ms (note_unknown t) ≡ named_of n v (table_at s ms t)
    unfolding named_of refused added
    give-known k =
        sym (ap (λ (x : Bool). cond (x || leb 1024 (length (table_at s ms t).names)) refused added) (ap known? found ∙ k))

    pub give-full : known? old ≡ false → 1024 ≤ t.count → table_at s ms (note_unknown t) ≡ named_of n v (table_at s ms t)
    unfolding named_of refused added
    give-full k m =
        sym (ap (λ (x : Bool). cond (x || leb 1024 (length (table_at s ms t).names)) refused added) (ap known? found ∙ k)
        ∙ ap (λ (x : Bool). cond x refused added) (ap (leb 1024) names-length ∙ le-leb 1024 t.count m))

    module _ (k : known? old ≡ false) (m : t.count < 1024) (x : Name) (u : Tally)
        (en : n ≡ word (drop x.place s)) (ez : x.value ≡ stored_of v) (eu : u ≡ one_more (note_fault v t)) where
      more : u.count ≡ suc t.count
      more = ap (λ (y : Tally). y.count) eu ∙ ap (λ (i : ℕ). i + 1) (note-count v t) ∙ add-one t.count

      take_more : take u.count (set ms t.count x) ≡ take t.count ms ++ (x ∷ [])
      take_more =
          ap (λ (i : ℕ). take i (set ms t.count x)) more ∙ take-suc-set ms t.count x (omega (arith, h.size, m))

      -- what the names are read for, with one name more
      map_more : {A : Type 0} (f : Name → A) → map f (take u.count (set ms t.count x)) ≡ map f (take t.count ms) ++ (f x ∷ [])
      map_more f = ap (map f) take_more ∙ map-append f (take t.count ms) (x ∷ [])

      names_more : names_at s (map (λ (y : Name). y.place) (take u.count (set ms t.count x))) ≡ (table_at s ms t).names ++ (n ∷ [])
      unfolding names_at
      names_more =
          ap (map (λ (i : ℕ). word (drop i s))) (map_more (λ (y : Name). y.place))
          ∙ map-append (λ (i : ℕ). word (drop i s)) (map (λ (y : Name). y.place) (take t.count ms)) (x.place ∷ [])
          ∙ ap (λ (w : List ℕ). (table_at s ms t).names ++ (w ∷ [])) (sym en)

      values-more : map (λ (y : Name). y.value) (take u.count (set ms t.count x)) ≡ (table_at s ms t).values ++ (stored_of v ∷ [])
      values-more = map_more (λ (y : Name). y.value) ∙ ap (λ (z : ℤ). (table_at s ms t).values ++ (z ∷ [])) ez

      pub give-new : table_at s (set ms t.count x) u ≡ named_of n v (table_at s ms t)
      unfolding named_of refused added
      give-new =
          ap (λ (y : List (List ℕ)). table y (map (λ (z : Name). z.value) (take u.count (set ms t.count x))) u) names_more
          ∙ ap (λ (y : List ℤ). table ((table_at s ms t).names ++ (n ∷ [])) y u) values-more
          ∙ ap (λ (y : Tally). table ((table_at s ms t).names ++ (n ∷ [])) ((table_at s ms t).values ++ (stored_of v ∷ [])) y) eu
          ∙ sym (ap (λ (y : Bool). cond (y || leb 1024 (length (table_at s ms t).names)) refused added) (ap known? found ∙ k)
          ∙ ap (λ (y : Bool). cond y refused added) (ap (leb 1024) names-length ∙ lt-leb 1024 t.count m))

      pub holds-new : x.key ≡ key_of (word (drop x.place s)) → Holds s (set ms t.count x) u
      holds-new ek = record {
        size = length-set ms t.count x ∙ h.size;
        within = omega (arith, more, m);
        keyed =
            map_more (λ (y : Name). y.key)
            ∙ ap (λ (y : List ℕ). y ++ (x.key ∷ [])) h.keyed
            ∙ ap (λ (y : ℕ). map (λ (z : Name). key_of (word (drop z.place s))) (take t.count ms) ++ (y ∷ [])) ek
            ∙ sym (map_more (λ (y : Name). key_of (word (drop y.place s))));
      }

-- ---- where a line ends, no word goes on

abbrev first_line : List (List ℕ) → List ℕ
first_line [] = []
first_line (l ∷ ls) = l

bools : ◌≡◌ {A = Bool} false true → ⊥
bools e = let z : ◌≡◌ {A = ℕ} 0 1 = ap (λ (b : Bool). cond b 1 0) e in omega arith

-- the first line after a byte that is in it
module _ (b : ℕ) (w : List ℕ) (ls : List (List ℕ)) where
  onto-more : (ms : List (List ℕ)) → onto b ms ≡ (b ∷ w) ∷ ls → first_line ms ≡ w
  onto-more [] e = ap (λ (x : List (List ℕ)). tail (first_line x)) e
  onto-more (m ∷ ms) e = ap (λ (x : List (List ℕ)). tail (first_line x)) e

  onto-none : (ms : List (List ℕ)) → onto b ms ≡ [] ∷ ls → ⊥
  onto-none [] e = let z : ◌≡◌ {A = ℕ} 1 0 = ap (λ (x : List (List ℕ)). length (first_line x)) e in omega arith
  onto-none (m ∷ ms) e = let z : suc (length m) ≡ 0 = ap (λ (x : List (List ℕ)). length (first_line x)) e in omega arith

  lf-none : (ms : List (List ℕ)) → [] ∷ ms ≡ (b ∷ w) ∷ ls → ⊥
  lf-none ms e = let z : ◌≡◌ {A = ℕ} 0 (suc (length w)) = ap (λ (x : List (List ℕ)). length (first_line x)) e in omega arith

crlf-is : (b : ℕ) (t : List ℕ) → starts_cr_lf (b ∷ t) ≡ true → (b ≡ 13) × (starts_lf t ≡ true)
crlf-is b t h =
    bool_cases (eqb b 13)
    (λ q. (eqb-true b 13 q, rw q at h)) (λ q. let z : ◌≡◌ {A = Bool} false true = rw q at h in absurd (bools z))

lf-lines : (t : List ℕ) → starts_lf t ≡ true → lines_of t ≡ [] ∷ lines_of (tail t)
unfolding lines_of
lf-lines [] h = let z : ◌≡◌ {A = Bool} false true = h in cc
lf-lines (b ∷ t) h = rw h

ten : name_byte? 10 ≡ false
unfolding name_byte?
ten = refl

thirteen : name_byte? 13 ≡ false
unfolding name_byte?
thirteen = refl

none_is : (t : List ℕ) → none t ≡ true → t ≡ []
none_is [] h = refl
none_is (b ∷ t) h = let z : ◌≡◌ {A = Bool} false true = h in cc

module _ (b : ℕ) (t : List ℕ) where
  lines-lf : eqb b 10 ≡ true → [] ∷ lines_of t ≡ lines_of (b ∷ t)
  unfolding lines_of
  lines-lf q = rw q

  lines-crlf : eqb b 10 ≡ false → starts_cr_lf (b ∷ t) ≡ true → lines_of t ≡ lines_of (b ∷ t)
  unfolding lines_of
  lines-crlf q r = rw (q, r)

  lines-char : eqb b 10 ≡ false → starts_cr_lf (b ∷ t) ≡ false → onto b (lines_of t) ≡ lines_of (b ∷ t)
  unfolding lines_of
  lines-char q r = rw (q, r)

-- what the lines of t say of the byte after its first line
after-byte : (t : List ℕ) (k : ℕ) (ms : List (List ℕ)) → lines_of t ≡ ms → first_line ms ≡ take k t
    → ((ls : List (List ℕ)) → lines_of t ≡ take k t ∷ ls → name_byte? (get_or t k 0) ≡ false) → name_byte? (get_or t k 0) ≡ false
after-byte t k [] em f g =
    ap (λ (x : List ℕ). name_byte? (get_or x k 0)) (none_is t (sym (lines_none t) ∙ ap none em)) ∙ name-zero
after-byte t k (m ∷ ms) em f g = g ms (em ∙ ap (λ (x : List ℕ). x ∷ ms) f)

line-stops : (u : List ℕ) (k : ℕ) (ls : List (List ℕ)) → lines_of u ≡ take k u ∷ ls → name_byte? (get_or u k 0) ≡ false
line-stops [] k ls e = name-zero
line-stops (b ∷ t) zero ls e = bool_cases (eqb b 10)
    (λ q. ap name_byte? (eqb-true b 10 q) ∙ ten) (λ q. bool_cases (starts_cr_lf (b ∷ t)) (λ r. ap name_byte? (crlf-is b t r).0 ∙ thirteen)
    (λ r. absurd (onto-none b [] ls (lines_of t) (lines-char b t q r ∙ e))))
line-stops (b ∷ t) (suc k) ls e =
    let again : (ms : List (List ℕ)) → lines_of t ≡ take k t ∷ ms → name_byte? (get_or t k 0) ≡ false = line-stops t k in
    bool_cases (eqb b 10)
    (λ q. absurd (lf-none b (take k t) ls (lines_of t) (lines-lf b t q ∙ e))) (λ q. bool_cases (starts_cr_lf (b ∷ t))
    (λ r. absurd (lf-none b (take k t) ls (lines_of (tail t)) (sym (lf-lines t (crlf-is b t r).1) ∙ lines-crlf b t q r ∙ e)))
    (λ r. after-byte t k (lines_of t) refl (onto-more b (take k t) ls (lines_of t) (lines-char b t q r ∙ e)) again))

pub apart_of : (s : List ℕ) (at stop next : ℕ) → LineAt s at stop next → Apart s at stop
apart_of s at stop next h = record {
  from = h.from;
  to = omega (arith, h.to, h.within);
  ends =
      let e : at + (stop - at) ≡ stop = omega (arith, h.from) in
      ap name_byte? (sym (get_or-drop at s (stop - at) 0 ∙ ap (λ (i : ℕ). get_or s i 0) e))
      ∙ line-stops (drop at s) (stop - at) (lines_of (drop next s)) h.split;
}

-- a name of the line stands in the line
pub name-within : (s : List ℕ) (at stop q : ℕ) → Apart s at stop → q < length (line_at s at stop) → at + q < stop
name-within s at stop q h k =
    let d = length-drop at s in
    let e = length-take-le (stop - at) (drop at s) (omega (arith, d, h.from, h.to)) in
    omega (arith, e, h.from)
