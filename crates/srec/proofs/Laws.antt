-- Laws of S-records that the code's proofs cite: bytes of a line by place, what an accepted line and an accepted text
-- are.
-- Assumes nothing.
use Prim.Native.Nat.{ℕ, zero, suc, ◌+◌, ◌-◌, ◌*◌, ◌/◌, ◌%◌, ◌≤◌, ◌<◌, min}
use mathlib.Core.Path.{◌≡◌, refl, sym, ap, ◌∙◌, subst}
use mathlib.Core.Bool.{Bool, true, false, cond, ◌&&◌, false≢true}
use mathlib.Core.List.{List, [], ◌∷◌, ◌++◌}
use native.Mathlib.Numerals.{add-one}
use native.Mathlib.Omega.{arith}
use lib.Dec.{eqb, ltb, leb}
use lib.ListN.{length, get_or, take, drop, length-append, length-drop, drop_of_length-le}
use lib.Seq.{get_or-drop, drop-cons, length-take-le}
use borrow.Author.Tests.{eqb-true, ltb-false, leb-true, eq-eqb, ne_eqb}
use Rattle.word.proofs.Laws.{bool_cases}
use Rattle.text_lines.specs.Lines.{text_of, none}
use Rattle.srec.specs.Digits.{digits_of, digit_of, all_digits, pairs_of, sum_of}
use Rattle.std.specs.Prelude.{⊤, Result, Ok, Err}
use Rattle.srec.specs.declared.Refusal.{Refusal}
use Rattle.srec.specs.declared.Refusal.TheVariants.{Form, Checksum, Room}
use Rattle.srec.specs.Record.{
  bytes_of,
  kind_of,
  count_of,
  address_of,
  known,
  shaped_of,
  summed_of,
  passes_of,
  fault_of,
  Loadable,
}
use Rattle.srec.specs.Write.{sealed, line_of, data_lines, span_text, span_length}
use Rattle.srec.specs.declared.Refused.{Refused}
use Rattle.srec.specs.Load.{verdict, first_fault, verdict_from, Sound}

-- ---- the last line

pub none-nil {ℓ} : {A : Type ℓ} (l : List A) → none l ≡ true → l ≡ []
none-nil [] e = refl
none-nil (x ∷ l) e = absurd (false≢true e)

-- ---- digits by place

pub pairs-at : (s : List ℕ) (k : ℕ) → 2 * k + 1 < length s
    → get_or (pairs_of s) k 0 ≡ 16 * digit_of (get_or s (2 * k) 0) + digit_of (get_or s (2 * k + 1) 0)
unfolding pairs_of
pairs-at [] k h = let z : ⊥ = omega arith in absurd z
pairs-at (a ∷ []) k h = let z : ⊥ = omega arith in absurd z
pairs-at (a ∷ b ∷ t) zero h = refl
pairs-at (a ∷ b ∷ t) (suc k) h =
    let e : 2 * suc k ≡ suc (suc (2 * k)) = omega arith in
    let f : suc (suc (2 * k)) + 1 ≡ suc (suc (2 * k + 1)) = omega arith in
    rw (e, f) (pairs-at t k (omega arith))

length_pairs : (s : List ℕ) (n : ℕ) → length s ≡ 2 * n → length (pairs_of s) ≡ n
unfolding pairs_of
length_pairs [] n h = omega arith
length_pairs (a ∷ []) n h = let z : ⊥ = omega arith in absurd z
length_pairs (a ∷ b ∷ t) zero h = let z : ⊥ = omega arith in absurd z
length_pairs (a ∷ b ∷ t) (suc n) h = ap suc (length_pairs t n (omega arith))

pub byte-at : (l : List ℕ) (k : ℕ) → 2 * k + 3 < length l
    → get_or (bytes_of l) k 0 ≡ 16 * digit_of (get_or l (2 * k + 2) 0) + digit_of (get_or l (2 * k + 3) 0)
unfolding bytes_of
byte-at l k h =
    let g : 2 * k + 1 < length (drop 2 l) = simp length-drop (omega arith) in
    let e : 2 + 2 * k ≡ 2 * k + 2 = omega arith in
    let f : 2 + (2 * k + 1) ≡ 2 * k + 3 = omega arith in
    pairs-at (drop 2 l) k g ∙ rw (get_or-drop 2 l (2 * k) 0, get_or-drop 2 l (2 * k + 1) 0, e, f) refl

pub bytes-length : (l : List ℕ) (n : ℕ) → length l ≡ 4 + 2 * n → length (bytes_of l) ≡ n + 1
unfolding bytes_of
bytes-length l n h = length_pairs (drop 2 l) (n + 1) (simp length-drop (omega arith))

-- ---- sums by place

pub sum-here : (l : List ℕ) (i : ℕ) → i < length l → sum_of (drop i l) ≡ get_or l i 0 + sum_of (drop (i + 1) l)
unfolding sum_of
sum-here l i h = rw (drop-cons l i 0 h, add-one)

pub sum-end : (l : List ℕ) (i : ℕ) → length l ≤ i → sum_of (drop i l) ≡ 0
unfolding sum_of
sum-end l i h = rw (drop_of_length-le l {i = i} h)

-- ---- what an accepted line is

-- the refusal of a line by its three tests
abbrev tried : (a b c : Bool) → Result ⊤ Refusal
tried a b c = cond a (cond b (cond c (Err Room) (Ok tt)) (Err Checksum)) (Err Form)

clean : (a b c : Bool) → tried a b c ≡ Ok tt → (a ≡ true) × (b ≡ true) × (c ≡ false)
clean true true false e = (refl, refl, refl)
clean true true true e = cc
clean true false c e = cc
clean false b c e = cc

seven : (a b c d e f g : Bool) → a && (b && (c && (d && (e && (f && g))))) ≡ true
    → (a ≡ true) × (b ≡ true) × (c ≡ true) × (d ≡ true) × (e ≡ true) × (f ≡ true) × (g ≡ true)
seven true true true true true true g h = (refl, refl, refl, refl, refl, refl, h)
seven true true true true true false g h = absurd (false≢true h)
seven true true true true false f g h = absurd (false≢true h)
seven true true true false e f g h = absurd (false≢true h)
seven true true false d e f g h = absurd (false≢true h)
seven true false c d e f g h = absurd (false≢true h)
seven false b c d e f g h = absurd (false≢true h)

-- the facts of a line of the right shape
pub record Shaped (last : Bool) (l : List ℕ) : Type 0 where
  pub long : length l ≡ 4 + 2 * count_of l
  pub room : 3 ≤ count_of l
  pub ends : cond (eqb (kind_of l) 57) (eqb (count_of l) 3 && last) true ≡ true

pub shaped-facts : (last : Bool) (l : List ℕ) → shaped_of last l ≡ true → Shaped last l
unfolding shaped_of
shaped-facts last l h =
    let s = seven (leb 4 (length l)) (eqb (get_or l 0 0) 83) (known (kind_of l)) (all_digits (drop 2 l))
    (eqb (length l) (4 + 2 * count_of l))
    (leb 3 (count_of l)) (cond (eqb (kind_of l) 57) (eqb (count_of l) 3 && last) true) h in
    record { long = eqb-true _ _ s.4; room = leb-true _ _ s.5; ends = s.6 }

passes-not : (l : List ℕ) → passes_of l ≡ false → kind_of l ≡ 49 → address_of l + (count_of l - 3) ≤ 65536
passes-not l h e = ltb-false _ _ (sym (ap (λ (x : Bool). x && ltb 65536 (address_of l + (count_of l - 3))) (eq-eqb (kind_of l) 49 e)) ∙ h)

pub fault-none : (last : Bool) (l : List ℕ) → fault_of last l ≡ Ok tt → Loadable l
unfolding fault_of
fault-none last l h =
    let c = clean (shaped_of last l) (summed_of l) (passes_of l) h in
    let s = shaped-facts last l c.0 in
    record { long = s.long; room = s.room; inside = passes-not l c.2 }

-- S9 is the last line
ends_last : (end three last : Bool) → end ≡ true → cond end (three && last) true ≡ true → last ≡ true
ends_last true true last q e = e
ends_last true false last q e = absurd (false≢true e)
ends_last false three last q e = absurd (false≢true q)

pub fault-end : (last : Bool) (l : List ℕ) → fault_of last l ≡ Ok tt → kind_of l ≡ 57 → last ≡ true
unfolding fault_of
fault-end last l h k =
    let c = clean (shaped_of last l) (summed_of l) (passes_of l) h in
    let s = (shaped-facts last l c.0).ends in
    ends_last (eqb (kind_of l) 57) (eqb (count_of l) 3) last (eq-eqb (kind_of l) 57 k) s

-- ---- the verdict, line by line

pub verdict-fault : (k : ℕ) (l : List ℕ) (ls : List (List ℕ)) (r : Refusal) → fault_of (none ls) l ≡ Err r
    → verdict r k ≡ verdict_from k (l ∷ ls)
unfolding verdict_from
verdict-fault k l ls r h = rw h

pub verdict-end : (k : ℕ) (l : List ℕ) (ls : List (List ℕ)) → fault_of (none ls) l ≡ Ok tt → kind_of l ≡ 57
    → Ok tt ≡ verdict_from k (l ∷ ls)
unfolding verdict_from
verdict-end k l ls h e = rw (h, eq-eqb (kind_of l) 57 e)

pub verdict-more : (k : ℕ) (l : List ℕ) (ls : List (List ℕ)) → fault_of (none ls) l ≡ Ok tt → (kind_of l ≡ 57 → ⊥)
    → verdict_from k (l ∷ ls) ≡ verdict_from (k + 1) ls
unfolding verdict_from
verdict-more k l ls h e = rw (h, ne_eqb (kind_of l) 57 e)

pub verdict-missing : (k : ℕ) → verdict Form k ≡ verdict_from k []
unfolding verdict_from
verdict-missing k = refl

-- a text is accepted where its first line has no fault and is the last, or the lines after it are accepted
passed : (k : ℕ) (f : Result ⊤ Refusal) (e : Bool) (rest : Result ⊤ Refused) → first_fault k f (cond e (Ok tt) rest) ≡ Ok tt
    → (f ≡ Ok tt) × (e ≡ false → rest ≡ Ok tt)
passed k (Ok x) true rest h = (refl, λ q. cc)
passed k (Ok x) false rest h = (refl, λ q. h)
passed k (Err r) e rest h = absurd cc

-- every line of an accepted text can be loaded
pub verdict-sound : (k : ℕ) (ls : List (List ℕ)) → verdict_from k ls ≡ Ok tt → Sound ls
unfolding verdict_from
verdict-sound k [] h = tt
verdict-sound k (l ∷ ls) h =
    let p = passed k (fault_of (none ls) l) (eqb (kind_of l) 57) (verdict_from (k + 1) ls) h in (
      fault-none (none ls) l p.0,
      bool_cases (eqb (kind_of l) 57)
          (λ q. subst Sound (sym (none-nil ls (fault-end (none ls) l p.0 (eqb-true _ _ q)))) tt)
          (λ q. verdict-sound (k + 1) ls (p.1 q)),
    )

-- ---- lengths of what is written

pub length_digits : (bs : List ℕ) → length (digits_of bs) ≡ 2 * length bs
unfolding digits_of
length_digits [] = refl
length_digits (b ∷ bs) = let e = length_digits bs in omega arith

pub length-line : (kind a : ℕ) (ds : List ℕ) → length (line_of kind a ds) ≡ 10 + 2 * length ds
unfolding line_of
length-line kind a ds =
    let b : List ℕ = (length ds + 3) ∷ (a / 256) ∷ (a % 256) ∷ ds in
    let e = length_digits (sealed ((length ds + 3) ∷ (a / 256) ∷ (a % 256) ∷ ds)) in
    let f = length-append ds ((255 - sum_of ((length ds + 3) ∷ (a / 256) ∷ (a % 256) ∷ ds) % 256) ∷ []) in
    omega arith

-- a span is not empty or ends in memory
chunk-length : (m : List ℕ) (a n : ℕ) → (0 < n → a + n ≤ length m) → length (take (min n 16) (drop a m)) ≡ min n 16
chunk-length m a zero h = refl
chunk-length m a (suc n) h =
    let g = h (omega arith) in
    length-take-le (min (suc n) 16) (drop a m) (simp length-drop (omega arith))

length-data : (k : ℕ) (m : List ℕ) (a n : ℕ) (rest : List (List ℕ)) → n ≤ 16 * k → (0 < n → a + n ≤ length m)
    → length (text_of (data_lines k m a n ++ rest)) ≡ 11 * k + 2 * n + length (text_of rest)
unfolding data_lines text_of
length-data zero m a n rest h g = omega arith
length-data (suc k) m a n rest h g =
    let t : List ℕ = text_of (data_lines k m (a + 16) (n - 16) ++ rest) in
    let ds : List ℕ = take (min n 16) (drop a m) in
    let e = length-append (line_of 49 a (take (min n 16) (drop a m))) (10 ∷ text_of (data_lines k m (a + 16) (n - 16) ++ rest)) in
    let f = length-line 49 a (take (min n 16) (drop a m)) in
    let l = chunk-length m a n g in
    let next : 0 < n - 16 → a + 16 + (n - 16) ≤ length m = λ p. let w = g (omega arith) in omega arith in
    let r = length-data k m (a + 16) (n - 16) rest (omega arith) next in
    omega arith

pub span-length : (m : List ℕ) (a n pc : ℕ) → a + n ≤ length m → length (span_text m a n pc) ≡ span_length n
unfolding text_of
span-length m a n pc h =
    let e = length-data ((n + 15) / 16) m a n (line_of 57 pc [] ∷ []) (omega arith) (λ p. h) in
    let f = length-append (line_of 57 pc []) (10 ∷ []) in
    let g = length-line 57 pc [] in
    omega arith
