-- The ring: what keeping a record writes and leaves, and the places behind the next one. Two places share no byte, so a record kept leaves
-- every other; and fewer places back than there are, the ring does not come round to the same place. Assumes nothing.
use Prim.Native.Nat.{ℕ, suc, ◌+◌, ◌-◌, ◌*◌, ◌/◌, ◌%◌, ◌<◌, ◌≤◌, min}
use native.Mathlib.Nat.{min-le_left}
use native.Mathlib.Omega.{arith}
use mathlib.Core.Bool.{true, not, ◌&&◌}
use mathlib.Core.List.{List, [], ◌∷◌, ◌++◌, append_assoc}
use mathlib.Core.Logic.{◌⊎◌, inl, inr, ◌≢◌}
use mathlib.Core.Path.{◌≡◌, refl, sym, ap, subst, ◌∙◌}
use lib.Dec.{eqb, ltb, leb}
use lib.ListN.{length, take, drop, set, length-take, length-drop}
use lib.Seq.{sets, sets-eq, length-sets, ext_get_or, take_at, drop_at, length-take-le, get_or-take, get_or-drop, get_or-set_other}
use Rattle.machine.specs.Memory.{byte_at}
use Rattle.machine_laws.proofs.Cases.{bool_cases, eq_of, neq-of, lt_of, ge-of, le_of, is_eq}
use Rattle.machine_laws.proofs.Cases.{not-eq, is_lt, not-lt, is_le, and_left, and_right, and_both}
use Rattle.journal.specs.Ring.{Journal, places_of, record_at, following, preceding, one_more, keep, journal_fits}
use Rattle.journal.specs.Back.{lowered, lowered_place}

-- ---- a record written at one place

sets-other : (b : List ℕ) (o : ℕ) (e : List ℕ) (i : ℕ) → (i < o) ⊎ (o + length e ≤ i) → byte_at (sets b o e) i ≡ byte_at b i
sets-other b o [] i h = refl
sets-other b o (x ∷ e) i (inl h) =
    sets-other (set b o x) (suc o) e i (inl (omega arith)) ∙ get_or-set_other b o i x 0 (omega arith)
sets-other b o (x ∷ e) i (inr h) =
    sets-other (set b o x) (suc o) e i (inr (omega arith)) ∙ get_or-set_other b o i x 0 (omega arith)

module _ (b e : List ℕ) (p : ℕ) (l : length e ≡ 64) where
  pub record_same : 64 * p + 64 ≤ length b → record_at (sets b (64 * p) e) p ≡ e
  record_same h =
      let a = take (64 * p) b in
      let z = drop (64 * p + length e) b in
      ap (λ (x : List ℕ). take 64 (drop (64 * p) x)) (sets-eq e b (64 * p) (rw l h) ∙ append_assoc a e z)
      ∙ ap (take 64) (drop_at a (e ++ z) (64 * p) (length-take-le (64 * p) b (omega arith)))
      ∙ take_at e z 64 l

  pub record-other : (q : ℕ) → q ≢ p → record_at (sets b (64 * p) e) q ≡ record_at b q
  record-other q n =
      let b' = sets b (64 * p) e in
      ext_get_or 0 (record_at b' q) (record_at b q)
      (length-take 64 (drop (64 * q) b') ∙ ap (λ k. min 64 k) (length-drop (64 * q) b' ∙ ap (λ k. k - 64 * q) (length-sets b (64 * p) e)
      ∙ sym (length-drop (64 * q) b)) ∙ sym (length-take 64 (drop (64 * q) b)))
      (λ i h.
      let m = length-take 64 (drop (64 * q) b') in
      let k : i < 64 = omega (arith, min-le_left 64 (length (drop (64 * q) b'))) in
      get_or-take 64 (drop (64 * q) b') i 0 k
      ∙ get_or-drop (64 * q) b' i 0
      ∙ sets-other b (64 * p) e (64 * q + i) (apart i k)
      ∙ sym (get_or-drop (64 * q) b i 0)
      ∙ sym (get_or-take 64 (drop (64 * q) b) i 0 k))
    where
      apart : (i : ℕ) → i < 64 → (64 * q + i < 64 * p) ⊎ (64 * p + length e ≤ 64 * q + i)
      apart i k =
          bool_cases (ltb q p)
          (λ r. let g : q < p = lt_of r in inl (omega arith)) (λ r. let g : p ≤ q = ge-of r in inr (omega arith))

-- ---- a journal that is not refused

pub record RingFits (j : Journal) : Type 0 where
  pub small : length j.bytes ≤ 65536
  pub whole : length j.bytes ≡ 64 * places_of j.bytes
  pub kept : j.kept ≤ places_of j.bytes
  pub place : j.place < places_of j.bytes

pub ring-fits : (j : Journal) → journal_fits j ≡ true → RingFits j
unfolding journal_fits
ring-fits j e =
    let t1 = not (eqb (length j.bytes) 0) in
    let t2 = leb (length j.bytes) 65536 in
    let t3 = eqb (length j.bytes % 64) 0 in
    let t4 = leb j.kept (places_of j.bytes) in
    let t5 = ltb j.place (places_of j.bytes) in
    let e4 = and_left (t1 && t2 && t3 && t4) t5 e in
    let e3 = and_left (t1 && t2 && t3) t4 e4 in
    let w : length j.bytes % 64 ≡ 0 = eq_of (and_right (t1 && t2) t3 e3) in
    record {
      small = le_of (and_right t1 t2 (and_left (t1 && t2) t3 e3));
      whole = omega arith;
      kept = le_of (and_right (t1 && t2 && t3) t4 e4);
      place = lt_of (and_right (t1 && t2 && t3 && t4) t5 e);
    }

-- and one that fits is not refused
pub fits-ring : (j : Journal) → RingFits j → journal_fits j ≡ true
unfolding journal_fits
fits-ring j f =
    let p = f.place in
    let w = f.whole in
    let some : length j.bytes ≢ 0 = omega arith in
    let even : length j.bytes % 64 ≡ 0 = omega arith in
    and_both (and_both (and_both (and_both (ap not (not-eq some)) (is_le f.small)) (is_eq even)) (is_le f.kept)) (is_lt p)

-- ---- places

following-lt : (r p : ℕ) → p < r → following r p < r
following-lt r p h =
    bool_cases (eqb (p + 1) r)
    (λ q. rw q (omega arith)) (λ q. let n : p + 1 ≢ r = neq-of q in rw q (omega arith))

preceding-lt : (r p : ℕ) → p < r → preceding r p < r
preceding-lt r p h =
    bool_cases (eqb p 0)
    (λ q. rw q (omega arith)) (λ q. rw q (omega arith))

pub preceding-following : (r p : ℕ) → p < r → preceding r (following r p) ≡ p
preceding-following r p h =
    bool_cases (eqb (p + 1) r)
    (λ q. let e : p + 1 ≡ r = eq_of q in rw q (omega arith)) (λ q. rw (q, not-eq {m = p + 1} {n = 0} (omega arith)) (omega arith))

pub lowered-zero : (r p : ℕ) → lowered_place r p 0 ≡ p
lowered-zero r p = rw (not-lt {m = p} {n = 0} (omega arith)) (omega arith)

pub preceding-lowered : (r p d : ℕ) → p < r → d < r → preceding r (lowered_place r p d) ≡ lowered_place r p (suc d)
preceding-lowered r p d h k =
    bool_cases (ltb p d)
    (λ q. let g : p < d = lt_of q in
    rw (q, not-eq {m = p + r - d} {n = 0} (omega arith), is_lt {m = p} {n = suc d} (omega arith)) (omega arith))
    (λ q. let g : d ≤ p = ge-of q in
    bool_cases (eqb (p - d) 0)
    (λ o. let z : p - d ≡ 0 = eq_of o in rw (q, o, is_lt {m = p} {n = suc d} (omega arith)) (omega arith))
    (λ o. let z : p - d ≢ 0 = neq-of o in rw (q, o, not-lt {m = p} {n = suc d} (omega arith)) (omega arith)))

pub lowered-lt : (r p k : ℕ) → p < r → k ≤ r → lowered_place r p k < r
lowered-lt r p k h l =
    bool_cases (ltb p k)
    (λ q. let g : p < k = lt_of q in rw q (omega arith)) (λ q. rw q (omega arith))

-- fewer than r places back lies another place
pub lowered-other : (r p d : ℕ) → p < r → 0 < d → d < r → lowered_place r p d ≢ p
lowered-other r p d h k l =
    bool_cases (ltb p d)
    (λ q. rw q (omega arith)) (λ q. let g : d ≤ p = ge-of q in rw q (omega arith))

-- ---- keeping and lowering

module _ (j : Journal) (f : RingFits j) where
  pub lowered-fits : RingFits (lowered j)
  lowered-fits =
      let k = f.kept in
      record { small = f.small; whole = f.whole; kept = omega arith; place = preceding-lt (places_of j.bytes) j.place f.place }

  pub keep-places : (e : List ℕ) → places_of (keep e j).bytes ≡ places_of j.bytes
  unfolding keep
  keep-places e = ap (λ n. n / 64) (length-sets j.bytes (64 * j.place) e)

  pub keep-fits : (e : List ℕ) → RingFits (keep e j)
  unfolding keep
  keep-fits e =
      let r = places_of j.bytes in
      let q = keep-places e in
      record {
        small = subst (λ n. n ≤ 65536) (sym (length-sets j.bytes (64 * j.place) e)) f.small;
        whole = length-sets j.bytes (64 * j.place) e ∙ f.whole ∙ ap (λ n. 64 * n) (sym q);
        kept = subst (λ n. one_more r j.kept ≤ n) (sym q) (more f.kept);
        place = subst (λ n. following r j.place < n) (sym q) (following-lt r j.place f.place);
      }
    where
      more : j.kept ≤ places_of j.bytes → one_more (places_of j.bytes) j.kept ≤ places_of j.bytes
      more k =
          bool_cases (ltb j.kept (places_of j.bytes))
          (λ q. let g : j.kept < places_of j.bytes = lt_of q in rw q (omega arith)) (λ q. rw q k)
