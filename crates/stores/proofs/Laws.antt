-- Runs of stores into a buffer: `sets m i a` stores the bytes a from place i on. Each law goes down the list that is stored, one store at a
-- time: a byte inside the run is that of the list, any other is as it was. Assumes nothing.
use Prim.Native.Nat.{ℕ, zero, suc, ◌+◌, ◌<◌, ◌≤◌}
use mathlib.Core.List.{List, [], ◌∷◌, ◌++◌}
use mathlib.Core.Path.{◌≡◌, refl, sym, ap, ◌∙◌}
use native.Mathlib.Nat.{add-suc, add-zero, zero-add, suc-add}
use native.Mathlib.Numerals.{add-one}
use native.Mathlib.Omega.{arith}
use lib.ListN.{length, get_or, set, take, drop, length-set, length-drop, drop_of_length-le}
use lib.Seq.{sets, length-sets, set-append_left, drop-cons, length-take-le, get_or-set_same, get_or-set_other}

-- ---- one run, stored in parts

pub sets-append : (m : List ℕ) (i : ℕ) (a b : List ℕ) → sets m i (a ++ b) ≡ sets (sets m i a) (i + length a) b
sets-append m i [] b = rw add-zero refl
sets-append m i (x ∷ a) b =
    let e : suc i + length a ≡ i + suc (length a) = omega arith in
    sets-append (set m i x) (suc i) a b ∙ ap (λ (n : ℕ). sets (sets (set m i x) (suc i) a) n b) e

pub sets_then : (m : List ℕ) (i j : ℕ) (a b : List ℕ) → j ≡ i + length a → sets (sets m i a) j b ≡ sets m i (a ++ b)
sets_then m i j a b e = rw e (sym (sets-append m i a b))

-- one more store of a run: k are done, of a list d
pub sets_more : (m d : List ℕ) (i k : ℕ) → k < length d
    → sets m (i + k) (drop k d) ≡ sets (set m (i + k) (get_or d k 0)) (i + (k + 1)) (drop (k + 1) d)
sets_more m d i k h =
    let e : i + (k + 1) ≡ suc (i + k) = omega arith in
    rw (drop-cons d k 0 h, e, add-one) refl

-- ---- two buffers, one after the other

pub set_past : (a b : List ℕ) (i v : ℕ) → set (a ++ b) (length a + i) v ≡ a ++ set b i v
set_past [] b i v = rw (zero-add i) refl
set_past (x ∷ a) b i v = rw (suc-add (length a) i) (ap (λ l. x ∷ l) (set_past a b i v))

pub sets-before : (a b : List ℕ) (i : ℕ) (vs : List ℕ) → i + length vs ≤ length a → sets (a ++ b) i vs ≡ sets a i vs ++ b
sets-before a b i [] h = refl
sets-before a b i (v ∷ vs) h =
    ap (λ l. sets l (suc i) vs) (set-append_left a b i v (omega arith))
    ∙ sets-before (set a i v) b (suc i) vs (rw (length-set a i v) (omega arith))

pub sets-past : (a b : List ℕ) (i : ℕ) (vs : List ℕ) → sets (a ++ b) (length a + i) vs ≡ a ++ sets b i vs
sets-past a b i [] = refl
sets-past a b i (v ∷ vs) =
    ap (λ l. sets l (suc (length a + i)) vs) (set_past a b i v)
    ∙ ap (λ n. sets (a ++ set b i v) n vs) (sym (add-suc (length a) i))
    ∙ sets-past a (set b i v) (suc i) vs

-- the first of which is filled
pub sets-joined : (a b vs ws : List ℕ) → length vs ≡ length a → sets (a ++ b) 0 (vs ++ ws) ≡ sets a 0 vs ++ sets b 0 ws
sets-joined a b vs ws h =
    let l = length-sets a 0 vs in
    let e : 0 + length vs ≡ length (sets a 0 vs) + 0 = omega arith in
    sets-append (a ++ b) 0 vs ws
    ∙ ap (λ m. sets m (0 + length vs) ws) (sets-before a b 0 vs (omega arith))
    ∙ ap (λ n. sets (sets a 0 vs ++ b) n ws) e
    ∙ sets-past (sets a 0 vs) b 0 ws

-- ---- byte by byte

pub sets_below : (vs m : List ℕ) (i j : ℕ) → j < i → get_or (sets m i vs) j 0 ≡ get_or m j 0
sets_below [] m i j h = refl
sets_below (v ∷ vs) m i j h =
    sets_below vs (set m i v) (suc i) j (omega arith) ∙ get_or-set_other m i j v 0 (λ (e : j ≡ i). omega arith)

pub sets-above : (vs m : List ℕ) (i j : ℕ) → i + length vs ≤ j → get_or (sets m i vs) j 0 ≡ get_or m j 0
sets-above [] m i j h = refl
sets-above (v ∷ vs) m i j h =
    sets-above vs (set m i v) (suc i) j (omega arith) ∙ get_or-set_other m i j v 0 (λ (e : j ≡ i). omega arith)

pub sets-in : (vs m : List ℕ) (i k : ℕ) → k < length vs → i + length vs ≤ length m → get_or (sets m i vs) (i + k) 0 ≡ get_or vs k 0
sets-in [] m i k h g = let z : ⊥ = omega arith in absurd z
sets-in (v ∷ vs) m i zero h g =
    let e : i + 0 ≡ i = omega arith in
    rw e (sets_below vs (set m i v) (suc i) i (omega arith) ∙ get_or-set_same m i v 0 (omega arith))
sets-in (v ∷ vs) m i (suc k) h g =
    let e : i + suc k ≡ suc i + k = omega arith in
    let l : suc i + length vs ≤ length (set m i v) = simp length-set (omega arith) in
    rw e (sets-in vs (set m i v) (suc i) k (omega arith) l)

-- ---- a list copied into a buffer one by one: what is left from j on

abbrev pub copied : (m : List ℕ) (i : ℕ) (d : List ℕ) (j : ℕ) → List ℕ
copied m i d j = sets m (i + j) (drop j d)

pub copied-start : (m : List ℕ) (i : ℕ) (d : List ℕ) → copied m i d 0 ≡ sets m i d
copied-start m i d = ap (λ k. sets m k d) (add-zero i)

pub copied-turn : (m : List ℕ) (i : ℕ) (d : List ℕ) (j : ℕ) → j < length d
    → copied (set m (i + j) (get_or d j 0)) i d (j + 1) ≡ copied m i d j
copied-turn m i d j h = sym (sets_more m d i j h)

pub copied-end : (m : List ℕ) (i : ℕ) (d : List ℕ) (j : ℕ) → length d ≤ j → copied m i d j ≡ m
copied-end m i d j h = ap (λ l. sets m (i + j) l) (drop_of_length-le d h)

-- ---- a part of a list

pub part_length : (m : List ℕ) (a s : ℕ) → a + s ≤ length m → length (take s (drop a m)) ≡ s
part_length m a s h = length-take-le s (drop a m) (simp length-drop (omega arith))
