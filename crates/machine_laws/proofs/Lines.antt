-- Lines that count (document 02, §7): what one event more and one event less do to each device's count, that the counts
-- stay eight of four bits, and that no line waits exactly where all are zero. The laws are over every place k at which a
-- field of four bits begins. Assumes nothing.
use Prim.Native.Nat.{ℕ, zero, suc, ◌+◌, ◌-◌, ◌*◌, ◌/◌, ◌%◌, ◌^◌, ◌≤◌, ◌<◌}
use mathlib.Core.Bool.{cond}
use mathlib.Core.Logic.{◌⊎◌, inl, inr, ⊎_elim, ◌≢◌}
use mathlib.Core.Path.{◌≡◌, refl, sym, ap, subst, ◌∙◌}
use native.Mathlib.Nat.{mod-lt, add-mul, div-eq_of_lt}
use native.Mathlib.Omega.{arith}
use lib.Dec.{ltb}
use lib.Pow.{pow_pos, split, high, low, field, shr-shr, shr_lt, mod-mod-pow}
use Rattle.word.proofs.Laws.{order, same_above, same-fits}
use Rattle.machine.specs.Devices.{events_waiting, waiting, raised, fallen}
use Rattle.machine_laws.specs.Lines.{CountsOne, TakesOne, OthersStay, NoneWaiting}
use Rattle.machine_laws.proofs.Cases.{bool_cases, lt_of, ge-of}

-- ---- one more at place k

regroup : (x b r p : ℕ) → x + r ≡ p → p + b ≡ x + 1 * b + r
regroup x b r p e = omega arith

-- the number q from place k on, where its low four bits are not full, and where they are not empty
up : (q : ℕ) → q % 16 < 15 → ((q + 1) % 16 ≡ q % 16 + 1) × ((q + 1) / 16 ≡ q / 16)
up q h = (omega arith, omega arith)

module _ (k p : ℕ) where
  more : p + 2 ^ k ≡ (p / 2 ^ k + 1) * 2 ^ k + p % 2 ^ k
  more = regroup (p / 2 ^ k * 2 ^ k) (2 ^ k) (p % 2 ^ k) p (split p k) ∙ ap (λ (x : ℕ). x + p % 2 ^ k) (sym (add-mul (p / 2 ^ k) 1 (2 ^ k)))

  more-high : (p + 2 ^ k) / 2 ^ k ≡ p / 2 ^ k + 1
  more-high = ap (λ (x : ℕ). x / 2 ^ k) more ∙ high (p / 2 ^ k + 1) k (mod-lt p (pow_pos k))

  more-low : (p + 2 ^ k) % 2 ^ k ≡ p % 2 ^ k
  more-low = ap (λ (x : ℕ). x % 2 ^ k) more ∙ low (p / 2 ^ k + 1) k (mod-lt p (pow_pos k))

  module _ (h : p / 2 ^ k % 16 < 15) where
    more-count : (p + 2 ^ k) / 2 ^ k % 16 ≡ p / 2 ^ k % 16 + 1
    more-count = ap (λ (x : ℕ). x % 16) more-high ∙ (up (p / 2 ^ k) h).0

    more-above : (p + 2 ^ k) / 2 ^ (k + 4) ≡ p / 2 ^ (k + 4)
    more-above =
        sym (shr-shr (p + 2 ^ k) k 4) ∙ ap (λ (x : ℕ). x / 16) more-high ∙ (up (p / 2 ^ k) h).1 ∙ shr-shr p k 4

    more-fits : (n : ℕ) → k + 4 ≤ n → p < 2 ^ n → p + 2 ^ k < 2 ^ n
    more-fits n l f = same-fits (p + 2 ^ k) p n (same_above (p + 2 ^ k) p (k + 4) n l more-above) f

    -- every other field of four bits stays
    more-elsewhere : (j : ℕ) → (j + 4 ≤ k) ⊎ (k + 4 ≤ j) → (p + 2 ^ k) / 2 ^ j % 16 ≡ p / 2 ^ j % 16
    more-elsewhere j =
        ⊎_elim
        (λ (l : j + 4 ≤ k).
        let e : k - (4 + j) + (4 + j) ≡ k = omega arith in
        let cut : (x : ℕ) → x % 2 ^ k % 2 ^ (4 + j) ≡ x % 2 ^ (4 + j) = λ x. (rw e at (mod-mod-pow x (k - (4 + j)) (4 + j))) in
        let same = sym (cut (p + 2 ^ k)) ∙ ap (λ (x : ℕ). x % 2 ^ (4 + j)) more-low ∙ cut p in
        sym (field (p + 2 ^ k) 4 j) ∙ ap (λ (x : ℕ). x / 2 ^ j) same ∙ field p 4 j)
        (λ (l : k + 4 ≤ j). ap (λ (x : ℕ). x % 16) (same_above (p + 2 ^ k) p (k + 4) j l more-above))

-- ---- one less: the number before one more

room : (q : ℕ) → 0 < (q + 1) % 16 → q % 16 < 15
room q h = omega arith

some-above : (q : ℕ) → 0 < q % 16 → 0 < q
some-above q h = omega arith

apart : (d e : ℕ) → e ≢ d → (4 * e + 4 ≤ 4 * d) ⊎ (4 * d + 4 ≤ 4 * e)
apart d e n =
    ⊎_elim (λ (l : d ≤ e). inr (let m : suc d ≤ e = next d e l n in omega arith)) (λ (l : e < d). inl (omega arith)) (order d e)
  where
    next : (d e : ℕ) → d ≤ e → e ≢ d → suc d ≤ e
    next d e l n = ⊎_elim (λ (m : e ≤ d). absurd (n (omega arith))) (λ (m : d < e). m) (order e d)

module _ (l d : ℕ) where
  -- a count above 0 holds one to take
  pub one-held : 0 < events_waiting l d → 2 ^ (4 * d) ≤ l
  one-held h =
      ⊎_elim (λ (m : 2 ^ (4 * d) ≤ l). m)
      (λ (m : l < 2 ^ (4 * d)).
      let z : l / 2 ^ (4 * d) ≡ 0 = div-eq_of_lt m in
      let u = some-above (l / 2 ^ (4 * d)) h in
      absurd (omega (arith, z, u)))
      (order (2 ^ (4 * d)) l)

  -- the sum and the difference that the code works out
  pub sum_fits : d < 8 → l < 2 ^ 32 → events_waiting l d < 15 → l + 2 ^ (4 * d) < 2 ^ 32
  sum_fits h f c = more-fits (4 * d) l c 32 (omega arith) f

  abbrev less : ℕ
  less = l - 2 ^ (4 * d)

  back : 0 < events_waiting l d → less + 2 ^ (4 * d) ≡ l
  back h = let m = one-held h in omega arith

  less-room : 0 < events_waiting l d → less / 2 ^ (4 * d) % 16 < 15
  less-room h =
      room (less / 2 ^ (4 * d))
      (subst (λ (x : ℕ). 0 < x % 16) (ap (λ (x : ℕ). x / 2 ^ (4 * d)) (sym (back h)) ∙ more-high (4 * d) less) h)

  -- ---- the counts after an event that raises the line, and after an acceptance or a chained entry

  -- it gains 1 below 15, and stays at 15
  raised-count : events_waiting (raised l d) d ≡ cond (ltb (events_waiting l d) 15) (events_waiting l d + 1) 15
  raised-count =
      bool_cases (ltb (events_waiting l d) 15)
      (λ q. rw q (more-count (4 * d) l (lt_of q))) (λ q. rw q (let h = ge-of q in full (l / 2 ^ (4 * d)) h))
    where
      full : (q : ℕ) → 15 ≤ q % 16 → q % 16 ≡ 15
      full q h = omega arith

  -- it loses 1, and stays at 0
  fallen-count : events_waiting (fallen l d) d ≡ events_waiting l d - 1
  fallen-count =
      bool_cases (waiting l d)
      (λ q. rw q (taken (lt_of q))) (λ q. rw q (let h = ge-of q in none (l / 2 ^ (4 * d) % 16) h))
    where
      none : (c : ℕ) → c ≤ 0 → c ≡ c - 1
      none c h = omega arith

      one : (a b : ℕ) → a ≡ b + 1 → b ≡ a - 1
      one a b e = omega arith

      taken : 0 < events_waiting l d → events_waiting less d ≡ events_waiting l d - 1
      taken h =
          one (events_waiting l d) (events_waiting less d)
          (ap (λ (x : ℕ). events_waiting x d) (sym (back h)) ∙ more-count (4 * d) less (less-room h))

  -- every other device's count stays
  module _ (e : ℕ) (other : e ≢ d) where
    raised-other : events_waiting (raised l d) e ≡ events_waiting l e
    raised-other =
        bool_cases (ltb (events_waiting l d) 15)
        (λ q. rw q (more-elsewhere (4 * d) l (lt_of q) (4 * e) (apart d e other))) (λ q. rw q refl)

    fallen-other : events_waiting (fallen l d) e ≡ events_waiting l e
    fallen-other =
        bool_cases (waiting l d)
        (λ q. rw q (
        let h : 0 < events_waiting l d = lt_of q in
        sym (more-elsewhere (4 * d) less (less-room h) (4 * e) (apart d e other)) ∙ ap (λ (x : ℕ). events_waiting x e) (back h)))
        (λ q. rw q refl)

  -- eight counts of four bits stay so
  pub raised-fits : d < 8 → l < 2 ^ 32 → raised l d < 2 ^ 32
  raised-fits h f = bool_cases (ltb (events_waiting l d) 15) (λ q. rw q (sum_fits h f (lt_of q))) (λ q. rw q f)

  pub fallen-fits : l < 2 ^ 32 → fallen l d < 2 ^ 32
  fallen-fits f = bool_cases (waiting l d) (λ q. rw q (below (2 ^ (4 * d)) f)) (λ q. rw q f)
    where
      below : (b : ℕ) → l < 2 ^ 32 → l - b < 2 ^ 32
      below b f = omega arith

pub counts-one : CountsOne
counts-one l d = raised-count l d

pub takes_one : TakesOne
takes_one l d = fallen-count l d

pub others-stay : OthersStay
others-stay l d e h = (raised-other l d e h, fallen-other l d e h)

-- ---- "No line waiting" means eight zero counts

-- n fields of four bits, all zero, are the number 0
all-zero : (n l : ℕ) → l < 2 ^ (4 * n) → ((d : ℕ) → d < n → events_waiting l d ≡ 0) → l ≡ 0
all-zero zero l f h = omega arith
all-zero (suc n) l f h =
    let e : 4 * n + 4 ≡ 4 * suc n = omega arith in
    let g : l / 2 ^ 4 < 2 ^ (4 * n) = shr_lt (4 * n) 4 (rw e f) in
    let up : (d : ℕ) → 4 + 4 * d ≡ 4 * suc d = λ d. omega arith in
    let z : l / 16 ≡ 0 = all-zero n (l / 16) g (λ d m.
    ap (λ (x : ℕ). x % 16) (shr-shr l 4 (4 * d) ∙ ap (λ (x : ℕ). l / 2 ^ x) (up d)) ∙ h (suc d) (omega arith)) in
    let y : l % 16 ≡ 0 = first l (h 0 (omega arith)) in
    omega arith
  where
    first : (l : ℕ) → l / 2 ^ (4 * 0) % 16 ≡ 0 → l % 16 ≡ 0
    first l h = omega arith

zero-counts : (d : ℕ) → events_waiting 0 d ≡ 0
zero-counts d = ap (λ (x : ℕ). x % 16) (div-eq_of_lt (pow_pos (4 * d)))

pub none-waiting-iff-zero : (l : ℕ) → l < 2 ^ 32 → (NoneWaiting l → l ≡ 0) × (l ≡ 0 → NoneWaiting l)
none-waiting-iff-zero l f =
    (λ h. all-zero 8 l f h, λ e d h. ap (λ (x : ℕ). events_waiting x d) e ∙ zero-counts d)
