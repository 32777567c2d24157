-- The largest total over all choices is the sum over the levels of the dearest. A choice has at most one device of a level, so no total is
-- above the sum; and the choice of the first of the dearest of each level is allowed and reaches it. Assumes nothing.
use Prim.Native.Nat.{ℕ, zero, suc, ◌+◌, ◌*◌, ◌-◌, ◌<◌, ◌≤◌}
use mathlib.Core.Bool.{Bool, true, false, cond, not, ◌&&◌, true≢false, false≢true}
use mathlib.Core.List.{List, [], ◌∷◌, ◌++◌}
use mathlib.Core.Logic.{◌≢◌}
use mathlib.Core.Path.{◌≡◌, refl, sym, ap, subst, ◌∙◌}
use native.Mathlib.Omega.{arith}
use lib.Dec.{eqb, ltb}
use Rattle.machine.specs.Record.{two_at}
use Rattle.machine_laws.specs.Bounds.{Each}
use Rattle.machine_laws.proofs.Cases.{bool_cases, eq_of, neq-of, lt_of, ge-of, is_eq, not-eq, is_lt, not-lt, eq_self, and_left, and_right}
use Rattle.machine_laws.proofs.Cases.{and_both}
use Rattle.resume.proofs.Deepest.{greater-ge-left, greater-ge-right, greater-le}
use Rattle.stack_need.specs.Need.{given?, level_of, use_of, cost_of, total, free?, choices, allowed?, largest, need_of, dearest}
use Rattle.stack_need.specs.Need.{sum_above, Rises, uses_fit}

-- four tests at once
four : (a b c d : Bool) → a && b && c && d ≡ true → (a ≡ true) × (b ≡ true) × (c ≡ true) × (d ≡ true)
four a b c d e =
    let e₃ = and_left (a && b && c) d e in
    let e₂ = and_left (a && b) c e₃ in
    (and_left a b e₂, and_right a b e₂, and_right (a && b) c e₃, and_right (a && b && c) d e)

level-small : (vectors : List ℕ) (d : ℕ) → level_of vectors d ≤ 7
unfolding level_of
level-small vectors d = omega arith

module _ (vectors : List ℕ) (devices : ℕ) (uses : List ℕ) where
  abbrev level : ℕ → ℕ
  level = level_of vectors

  abbrev cost : ℕ → ℕ
  cost = cost_of uses

  abbrev top : (n l : ℕ) → ℕ
  top = dearest vectors devices uses

  abbrev sum : (n p : ℕ) → ℕ
  sum = sum_above vectors devices uses

  -- ---- the dearest of a level

  top-step : (d l : ℕ) → top d l ≤ top (suc d) l
  unfolding dearest
  top-step d l =
      bool_cases (given? devices d && eqb (level d) l)
      (λ q. rw q (greater-ge-left (top d l) (cost d))) (λ q. rw q (omega arith))

  top-here : (d : ℕ) → given? devices d ≡ true → cost d ≤ top (suc d) (level d)
  unfolding dearest
  top-here d g = rw (g, eq_self (level d)) (greater-ge-right (top d (level d)) (cost d))

  top_above : (n d : ℕ) → d < n → given? devices d ≡ true → cost d ≤ top n (level d)
  top_above zero d h g = absurd (omega arith)
  top_above (suc n) d h g =
      bool_cases (eqb d n)
      (λ q. let e : d ≡ n = eq_of q in subst (λ x. cost d ≤ top (suc x) (level d)) e (top-here d g)) (λ q.
      let u : d ≢ n = neq-of q in
      let a = top_above n d (omega arith) g in
      let b = top-step n (level d) in
      omega arith)

  -- ---- the sum over the levels

  pub sum-falls : (n p q : ℕ) → p ≤ q → sum n q ≤ sum n p
  unfolding sum_above
  sum-falls zero p q h = omega arith
  sum-falls (suc n) p q h =
      let i = sum-falls n p q h in
      bool_cases (ltb q (suc n))
      (λ e. let b : q < suc n = lt_of e in let f : ltb p (suc n) ≡ true = is_lt {m = p} {n = suc n} (omega arith) in rw (e, f)
      (omega arith)) (λ e. rw e (omega arith))

  pub sum_level : (n l q : ℕ) → q < l → l ≤ n → top 8 l + sum n l ≤ sum n q
  unfolding sum_above
  sum_level zero l q h k = absurd (omega arith)
  sum_level (suc n) l q h k =
      let f : ltb q (suc n) ≡ true = is_lt {m = q} {n = suc n} (omega arith) in
      bool_cases (ltb l (suc n))
      (λ e. let b : l < suc n = lt_of e in let i = sum_level n l q h (omega arith) in rw (e, f) (omega arith)) (λ e.
      let b : suc n ≤ l = ge-of e in
      let w : suc n ≡ l = omega arith in
      let i = sum-falls n q l (omega arith) in
      let v : top 8 (suc n) ≡ top 8 l = ap (top 8) w in
      rw (e, f) (omega arith))

  -- a device more on top of what the levels above it need
  pub sum-device : (d q : ℕ) → d < 8 → given? devices d ≡ true → q < level d → cost d + sum 7 (level d) ≤ sum 7 q
  sum-device d q h g k =
      let a = top_above 8 d h g in
      let b = sum_level 7 (level d) q k (level-small vectors d) in
      omega arith

  -- ---- the largest total is at most the sum

  -- the cost of the devices of a choice that have the level l, and the sum of these over the levels above p
  at : ℕ → List ℕ → ℕ
  at l [] = 0
  at l (d ∷ c) = cond (eqb (level d) l) (cost d) 0 + at l c

  sum_at : (n p : ℕ) → List ℕ → ℕ
  sum_at zero p c = 0
  sum_at (suc l) p c = cond (ltb p (suc l)) (at (suc l) c) 0 + sum_at l p c

  -- of one device
  single : (n p d : ℕ) → ℕ
  single zero p d = 0
  single (suc l) p d = cond (ltb p (suc l)) (cond (eqb (level d) (suc l)) (cost d) 0) 0 + single l p d

  single-none : (n p d : ℕ) → n < level d → single n p d ≡ 0
  unfolding single
  single-none zero p d h = refl
  single-none (suc n) p d h =
      let i = single-none n p d (omega arith) in
      let u : level d ≢ suc n = λ e. omega arith in
      bool_cases (ltb p (suc n)) (λ q. rw (q, not-eq {m = level d} {n = suc n} u) (omega arith)) (λ q. rw q (omega arith))

  single-one : (n p d : ℕ) → p < level d → level d ≤ n → single n p d ≡ cost d
  unfolding single
  single-one zero p d h k = absurd (omega arith)
  single-one (suc n) p d h k =
      let f : ltb p (suc n) ≡ true = is_lt {m = p} {n = suc n} (omega arith) in
      bool_cases (eqb (level d) (suc n))
      (λ q. let e : level d ≡ suc n = eq_of q in let i = single-none n p d (omega arith) in rw (f, q) (omega arith))
      (λ q. let e : level d ≢ suc n = neq-of q in let i = single-one n p d h (omega arith) in rw (f, q) (omega arith))

  sum_at-empty : (n p : ℕ) → sum_at n p [] ≡ 0
  unfolding sum_at at
  sum_at-empty zero p = refl
  sum_at-empty (suc n) p =
      let i = sum_at-empty n p in
      bool_cases (ltb p (suc n)) (λ q. rw q (omega arith)) (λ q. rw q (omega arith))

  sum_at-more : (n p d : ℕ) (c : List ℕ) → sum_at n p (d ∷ c) ≡ single n p d + sum_at n p c
  unfolding sum_at at single
  sum_at-more zero p d c = refl
  sum_at-more (suc n) p d c =
      let i = sum_at-more n p d c in
      bool_cases (ltb p (suc n)) (λ q. rw q (omega arith)) (λ q. rw q (omega arith))

  -- every device of the choice is above p: its total is the sum over the levels
  total-at : (p : ℕ) (c : List ℕ) → Each (λ d. p < level d) c → total uses c ≡ sum_at 7 p c
  unfolding total
  total-at p [] h = sym (sum_at-empty 7 p)
  total-at p (d ∷ c) h =
      let a = sum_at-more 7 p d c in
      let b = single-one 7 p d h.0 (level-small vectors d) in
      let e = total-at p c h.1 in
      omega arith

  -- ---- what an allowed choice has

  abbrev allowed : (p : ℕ) → List ℕ → Bool
  allowed = allowed? vectors devices uses

  module _ (p d : ℕ) (c : List ℕ) (e : allowed p (d ∷ c) ≡ true) where
    parts : (given? devices d ≡ true) × (ltb p (level d) ≡ true) × (free? vectors (level d) c ≡ true) × (allowed p c ≡ true)
    unfolding allowed?
    parts = four (given? devices d) (ltb p (level d)) (free? vectors (level d) c) (allowed p c) e

    first-given : given? devices d ≡ true
    first-given = parts.0

    first_above : p < level d
    first_above = lt_of parts.1

    first-free : free? vectors (level d) c ≡ true
    first-free = parts.2

    rest-allowed : allowed p c ≡ true
    rest-allowed = parts.3

  allowed-above : (p : ℕ) (c : List ℕ) → allowed p c ≡ true → Each (λ d. p < level d) c
  allowed-above p [] e = tt
  allowed-above p (d ∷ c) e = (first_above p d c e, allowed-above p c (rest-allowed p d c e))

  at-free : (l : ℕ) (c : List ℕ) → free? vectors l c ≡ true → at l c ≡ 0
  unfolding free? at
  at-free l [] e = refl
  at-free l (d ∷ c) e =
      bool_cases (eqb (level d) l)
      (λ q. absurd (false≢true (rw q at e))) (λ q. let i = at-free l c (rw q at e) in rw q (omega arith))

  at-below : (p l : ℕ) (c : List ℕ) → Each (λ d. d < 8) c → allowed p c ≡ true → at l c ≤ top 8 l
  unfolding at
  at-below p l [] h e = omega arith
  at-below p l (d ∷ c) h e =
      bool_cases (eqb (level d) l)
      (λ q.
      let w : level d ≡ l = eq_of q in
      let z : at l c ≡ 0 = at-free l c (subst (λ x. free? vectors x c ≡ true) w (first-free p d c e)) in
      let t : cost d ≤ top 8 l = subst (λ x. cost d ≤ top 8 x) w (top_above 8 d h.0 (first-given p d c e)) in
      rw q (omega arith))
      (λ q. let i = at-below p l c h.1 (rest-allowed p d c e) in rw q (omega arith))

  sum_at-below : (n p : ℕ) (c : List ℕ) → ((l : ℕ) → at l c ≤ top 8 l) → sum_at n p c ≤ sum n p
  unfolding sum_at sum_above
  sum_at-below zero p c h = omega arith
  sum_at-below (suc n) p c h =
      let i = sum_at-below n p c h in
      let j = h (suc n) in
      bool_cases (ltb p (suc n)) (λ q. rw q (omega arith)) (λ q. rw q (omega arith))

  total-below : (p : ℕ) (c : List ℕ) → Each (λ d. d < 8) c → allowed p c ≡ true → total uses c ≤ sum 7 p
  total-below p c h e =
      let a = total-at p c (allowed-above p c e) in
      let b = sum_at-below 7 p c (λ l. at-below p l c h e) in
      omega arith

  -- ---- the largest of a list of choices

  abbrev most : (p : ℕ) → List (List ℕ) → ℕ
  most = largest vectors devices uses

  abbrev worth : (p : ℕ) → List ℕ → ℕ
  worth p c = cond (allowed p c) (total uses c) 0

  append-most : (p x : ℕ) (xs ys : List (List ℕ)) → most p xs ≤ x → most p ys ≤ x → most p (xs ++ ys) ≤ x
  unfolding largest
  append-most p x [] ys h k = k
  append-most p x (c ∷ xs) ys h k =
      let a = greater-ge-left (worth p c) (most p xs) in
      let b = greater-ge-right (worth p c) (most p xs) in
      greater-le (worth p c) (most p (xs ++ ys)) x (omega arith) (append-most p x xs ys (omega arith) k)

  append_right : (p : ℕ) (xs ys : List (List ℕ)) → most p ys ≤ most p (xs ++ ys)
  unfolding largest
  append_right p [] ys = omega arith
  append_right p (c ∷ xs) ys =
      let a = append_right p xs ys in
      let b = greater-ge-right (worth p c) (most p (xs ++ ys)) in
      omega arith

  append_left : (p : ℕ) (xs ys : List (List ℕ)) → most p xs ≤ most p (xs ++ ys)
  unfolding largest
  append_left p [] ys = omega arith
  append_left p (c ∷ xs) ys =
      let a = append_left p xs ys in
      let b = greater-ge-right (worth p c) (most p (xs ++ ys)) in
      greater-le (worth p c) (most p xs) _ (greater-ge-left (worth p c) (most p (xs ++ ys))) (omega arith)

  worth-below : (p : ℕ) (c : List ℕ) → Each (λ d. d < 8) c → worth p c ≤ sum 7 p
  worth-below p c h = bool_cases (allowed p c) (λ q. rw q (total-below p c h q)) (λ q. rw q (omega arith))

  choices-below : (p n : ℕ) (c : List ℕ) → n ≤ 8 → Each (λ d. d < 8) c → most p (choices n c) ≤ sum 7 p
  unfolding choices largest
  choices-below p zero c h e = greater-le (worth p c) 0 (sum 7 p) (worth-below p c e) (omega arith)
  choices-below p (suc d) c h e =
      let k : d < 8 = omega arith in
      append-most p (sum 7 p) (choices d c) (choices d (d ∷ c)) (choices-below p d c (omega arith) e)
      (choices-below p d (d ∷ c) (omega arith) (k, e))

  -- ---- the first of the dearest of each level is a choice that reaches the sum

  picked? : (p d : ℕ) → Bool
  picked? p d = given? devices d && ltb p (level d) && ltb (top d (level d)) (cost d) && eqb (cost d) (top 8 (level d))

  pick : (p n : ℕ) → List ℕ → List ℕ
  pick p zero c = c
  pick p (suc d) c = pick p d (cond (picked? p d) (d ∷ c) c)

  module _ (p d : ℕ) (e : picked? p d ≡ true) where
    picks : (given? devices d ≡ true) × (ltb p (level d) ≡ true) × (ltb (top d (level d)) (cost d) ≡ true)
        × (eqb (cost d) (top 8 (level d)) ≡ true)
    unfolding picked?
    picks = four (given? devices d) (ltb p (level d)) (ltb (top d (level d)) (cost d)) (eqb (cost d) (top 8 (level d))) e

    picked-given : given? devices d ≡ true
    picked-given = picks.0

    picked-above : ltb p (level d) ≡ true
    picked-above = picks.1

    picked_first : top d (level d) < cost d
    picked_first = lt_of picks.2

    picked-dearest : cost d ≡ top 8 (level d)
    picked-dearest = eq_of picks.3

  picked_apart : (p d e : ℕ) → d < e → picked? p d ≡ true → picked? p e ≡ true → level e ≢ level d
  picked_apart p d e h x y w =
      let a = picked-dearest p d x in
      let b = picked-dearest p e y in
      let c = picked_first p e y in
      let f = top_above e d h (picked-given p d x) in
      let u : top e (level e) ≡ top e (level d) = ap (top e) w in
      let v : top 8 (level e) ≡ top 8 (level d) = ap (top 8) w in
      omega arith

  -- the devices picked from n on
  Later : (p n : ℕ) → List ℕ → Type 0
  Later p n c = Each (λ e. (n ≤ e) × (picked? p e ≡ true)) c

  later-free : (p d : ℕ) (c : List ℕ) → picked? p d ≡ true → Later p (suc d) c → free? vectors (level d) c ≡ true
  unfolding free? Later
  later-free p d [] x h = refl
  later-free p d (e ∷ c) x h =
      let k = h.0.0 in
      rw (not-eq {m = level e} {n = level d} (picked_apart p d e (omega arith) x h.0.1)) (later-free p d c x h.1)

  later-down : (p d : ℕ) (c : List ℕ) → Later p (suc d) c → Later p d c
  unfolding Later
  later-down p d [] h = tt
  later-down p d (e ∷ c) h = let k = h.0.0 in ((omega arith, h.0.1), later-down p d c h.1)

  pick-allowed : (p n : ℕ) (c : List ℕ) → Later p n c → allowed p c ≡ true → allowed p (pick p n c) ≡ true
  unfolding pick Later allowed?
  pick-allowed p zero c h e = e
  pick-allowed p (suc d) c h e =
      bool_cases (picked? p d)
      (λ q. rw q (pick-allowed p d (d ∷ c) ((omega arith, q), later-down p d c h)
      (and_both (and_both (and_both (picked-given p d q) (picked-above p d q)) (later-free p d c q h)) e)))
      (λ q. rw q (pick-allowed p d c (later-down p d c h) e))

  pick-worth : (p n : ℕ) (c : List ℕ) → worth p (pick p n c) ≤ most p (choices n c)
  unfolding pick choices largest
  pick-worth p zero c = greater-ge-left (worth p c) 0
  pick-worth p (suc d) c =
      bool_cases (picked? p d)
      (λ q.
      let a = pick-worth p d (d ∷ c) in
      let b = append_right p (choices d c) (choices d (d ∷ c)) in
      rw q (omega arith))
      (λ q.
      let a = pick-worth p d c in
      let b = append_left p (choices d c) (choices d (d ∷ c)) in
      rw q (omega arith))

  pick-grows : (p l n : ℕ) (c : List ℕ) → at l c ≤ at l (pick p n c)
  unfolding pick at
  pick-grows p l zero c = omega arith
  pick-grows p l (suc d) c =
      bool_cases (picked? p d)
      (λ q. let a = pick-grows p l d (d ∷ c) in rw q (omega arith)) (λ q. rw q (pick-grows p l d c))

  -- a device that is not picked, or is of another level, is not the first of the dearest
  top_kept : (p d l : ℕ) → p < l → picked? p d ≡ false → top (suc d) l ≡ top 8 l → top d l ≡ top (suc d) l
  unfolding dearest picked?
  top_kept p d l h x e =
      bool_cases (given? devices d && eqb (level d) l)
      (λ q. bool_cases (ltb (top d l) (cost d)) (λ b.
      let g : given? devices d ≡ true = and_left (given? devices d) _ q in
      let w : level d ≡ l = eq_of (and_right (given? devices d) (eqb (level d) l) q) in
      let f : cost d ≡ top 8 l = rw (q, b) at e in
      let yes : picked? p d ≡ true = rw (g, w, is_lt {m = p} {n = l} h, b, is_eq {m = cost d} {n = top 8 l} f) refl in
      absurd (true≢false (sym yes ∙ x)))
      (λ b. rw (q, b) refl)) (λ q. rw q refl)

  top-other : (d l : ℕ) → eqb (level d) l ≡ false → top d l ≡ top (suc d) l
  unfolding dearest
  top-other d l q = bool_cases (given? devices d) (λ g. rw (g, q) refl) (λ g. rw g refl)

  top-none : (l : ℕ) → top 0 l ≡ 0
  unfolding dearest
  top-none l = refl

  at_first : (l d : ℕ) (c : List ℕ) → level d ≡ l → cost d ≤ at l (d ∷ c)
  unfolding at
  at_first l d c v = rw (is_eq {m = level d} {n = l} v) (omega arith)

  pick_at : (p l n : ℕ) (c : List ℕ) → p < l → top n l ≡ top 8 l → top 8 l ≤ at l (pick p n c)
  unfolding pick
  pick_at p l zero c h e = let z = top-none l in omega arith
  pick_at p l (suc d) c h e =
      bool_cases (picked? p d)
      (λ q. bool_cases (eqb (level d) l) (λ w.
      let v : level d ≡ l = eq_of w in
      let a = pick-grows p l d (d ∷ c) in
      let b = at_first l d c v in
      let f = picked-dearest p d q in
      let g : top 8 (level d) ≡ top 8 l = ap (top 8) v in
      rw q (omega arith))
      (λ w. rw q (pick_at p l d (d ∷ c) h (top-other d l w ∙ e)))) (λ q. rw q (pick_at p l d c h (top_kept p d l h q e ∙ e)))

  sum_at-above : (n p : ℕ) (c : List ℕ) → ((l : ℕ) → p < l → top 8 l ≤ at l c) → sum n p ≤ sum_at n p c
  unfolding sum_at sum_above
  sum_at-above zero p c h = omega arith
  sum_at-above (suc n) p c h =
      let i = sum_at-above n p c h in
      bool_cases (ltb p (suc n)) (λ q. let j = h (suc n) (lt_of q) in rw q (omega arith)) (λ q. rw q (omega arith))

  sum-reached : (p : ℕ) → sum 7 p ≤ most p (choices 8 [])
  unfolding Later allowed?
  sum-reached p =
      let c = pick p 8 [] in
      let ok : allowed p c ≡ true = pick-allowed p 8 [] tt refl in
      let a = total-at p c (allowed-above p c ok) in
      let b = sum_at-above 7 p c (λ l h. pick_at p l 8 [] h refl) in
      let d = pick-worth p 8 [] in
      let e : worth p c ≡ total uses c = ap (λ b. cond b (total uses c) 0) ok in
      omega arith

  -- ---- the law

  pub need-is : (p : ℕ) → need_of vectors devices uses p ≡ sum_above vectors devices uses 7 p
  unfolding need_of
  need-is p = let a = choices-below p 8 [] (omega arith) tt in let b = sum-reached p in omega arith

  -- each total of an allowed choice is at most it
  pub need-most : (p : ℕ) (c : List ℕ) → Each (λ d. d < 8) c → allowed? vectors devices uses p c ≡ true
      → total uses c ≤ need_of vectors devices uses p
  need-most p c h e = let a = total-below p c h e in let b = need-is p in omega arith

  -- ---- the largest total is that of the lists that rise strictly

  rises-below : (p : ℕ) (c : List ℕ) → Rises vectors devices p c → total uses c ≤ sum 7 p
  unfolding total
  rises-below p [] h = omega arith
  rises-below p (d ∷ c) h =
      let a = rises-below (level d) c h.3 in
      let b = sum-device d p h.0 h.1 h.2 in
      omega arith

  pub rises-most : (p : ℕ) (c : List ℕ) → Rises vectors devices p c → total uses c ≤ need_of vectors devices uses p
  rises-most p c h = let a = rises-below p c h in let b = need-is p in omega arith

  -- the dearest of a level is some device's cost
  record Dearest (n l : ℕ) : Type 0 where
    which : ℕ
    small : which < n
    is-given : given? devices which ≡ true
    level-is : level which ≡ l
    cost-is : cost which ≡ top n l

  dearest-up : (n l : ℕ) → top n l ≡ top (suc n) l → Dearest n l → Dearest (suc n) l
  dearest-up n l e x =
      let k = x.small in
      record { which = x.which; small = omega arith; is-given = x.is-given; level-is = x.level-is; cost-is = x.cost-is ∙ e }

  top_reached : (n l : ℕ) → 0 < top n l → Dearest n l
  unfolding dearest
  top_reached zero l h = absurd (omega arith)
  top_reached (suc n) l h =
      bool_cases (given? devices n && eqb (level n) l)
      (λ q. bool_cases (ltb (top n l) (cost n)) (λ b.
      record {
        which = n;
        small = omega arith;
        is-given = and_left (given? devices n) _ q;
        level-is = eq_of (and_right (given? devices n) (eqb (level n) l) q);
        cost-is = rw (q, b) refl;
      })
      (λ b. dearest-up n l (rw (q, b) refl) (top_reached n l (rw (q, b) at h))))
      (λ q. dearest-up n l (rw q refl) (top_reached n l (rw q at h)))

  -- one level more
  sum_same : (n p : ℕ) → n ≤ p → sum n p ≡ 0
  unfolding sum_above
  sum_same zero p h = refl
  sum_same (suc n) p h = let i = sum_same n p (omega arith) in rw (not-lt {m = p} {n = suc n} h) (omega arith)

  sum-next : (n p : ℕ) → sum n p ≤ top 8 (suc p) + sum n (suc p)
  unfolding sum_above
  sum-next zero p = omega arith
  sum-next (suc n) p =
      let i = sum-next n p in
      bool_cases (ltb p (suc n))
      (λ q. bool_cases (ltb (suc p) (suc n)) (λ b. rw (q, b) (omega arith)) (λ b.
      let x : p < suc n = lt_of q in
      let y : suc n ≤ suc p = ge-of b in
      let e : suc n ≡ suc p = omega arith in
      let z = sum_same n p (omega arith) in
      let v : top 8 (suc n) ≡ top 8 (suc p) = ap (top 8) e in
      rw (q, b) (omega arith)))
      (λ q. let z = sum_same (suc n) p (ge-of q) in rw q (omega arith))

  -- a choice that reaches the sum of the levels above p
  record Reached (p : ℕ) : Type 0 where
    choice : List ℕ
    rises : Rises vectors devices p choice
    enough : sum 7 p ≤ total uses choice

  rises-down : (p : ℕ) (c : List ℕ) → Rises vectors devices (suc p) c → Rises vectors devices p c
  rises-down p [] h = tt
  rises-down p (d ∷ c) h = let k = h.2 in (h.0, h.1, omega arith, h.3)

  reached : (n p : ℕ) → n + p ≡ 7 → Reached p
  unfolding total
  reached zero p e =
      let z = sum_same 7 p (omega arith) in record { choice = []; rises = tt; enough = omega arith }
  reached (suc n) p e =
      let x = reached n (suc p) (omega arith) in
      let a = x.enough in
      let b = sum-next 7 p in
      bool_cases (ltb 0 (top 8 (suc p)))
      (λ q.
      let d = top_reached 8 (suc p) (lt_of q) in
      let k = d.level-is in
      let l = d.cost-is in
      record {
        choice = d.which ∷ x.choice;
        rises = (d.small, d.is-given, omega arith, subst (λ y. Rises vectors devices y x.choice) (sym k) x.rises);
        enough = omega arith;
      })
      (λ q. let z : top 8 (suc p) ≤ 0 = ge-of q in record {
        choice = x.choice;
        rises = rises-down p x.choice
            x.rises;
        enough = omega arith;
      })

  pub rises-reached : (p : ℕ) → p ≤ 7 → (c : List ℕ) × (Rises vectors devices p c × (total uses c ≡ need_of vectors devices uses p))
  rises-reached p h =
      let x = reached (7 - p) p (omega arith) in
      let a = x.enough in
      let b = rises-below p x.choice x.rises in
      let d = need-is p in
      (x.choice, (x.rises, omega arith))

  -- ---- the figure is at most 7 × 1,032

  use-small : (n d : ℕ) → uses_fit uses n ≡ true → d < n → use_of uses d ≤ 1024
  unfolding uses_fit use_of
  use-small zero d e h = absurd (omega arith)
  use-small (suc n) d e h =
      bool_cases (eqb d n)
      (λ q.
      let w : d ≡ n = eq_of q in
      bool_cases (ltb 1024 (two_at uses (2 * n)))
      (λ b. absurd (false≢true (rw b at e)))
      (λ b. let y : two_at uses (2 * n) ≤ 1024 = ge-of b in subst (λ x. two_at uses (2 * x) ≤ 1024) (sym w) y)) (λ q.
      let u : d ≢ n = neq-of q in
      use-small n d (and_right (not (ltb 1024 (two_at uses (2 * n)))) (uses_fit uses n) e) (omega arith))

  pub top_small : uses_fit uses 8 ≡ true → (n l : ℕ) → n ≤ 8 → top n l ≤ 1032
  unfolding dearest
  top_small f zero l h = omega arith
  top_small f (suc n) l h =
      let i = top_small f n l (omega arith) in
      let k = use-small 8 n f h in
      bool_cases (given? devices n && eqb (level n) l)
      (λ q. rw q (greater-le (top n l) (cost n) 1032 i (omega arith))) (λ q. rw q i)

  pub sum-small : uses_fit uses 8 ≡ true → (n p : ℕ) → sum n p ≤ n * 1032
  unfolding sum_above
  sum-small f zero p = omega arith
  sum-small f (suc n) p =
      let i = sum-small f n p in
      let k = top_small f 8 (suc n) (omega arith) in
      bool_cases (ltb p (suc n)) (λ q. rw q (omega arith)) (λ q. rw q (omega arith))

  pub need-small : uses_fit uses 8 ≡ true → (p : ℕ) → need_of vectors devices uses p ≤ 7224
  need-small f p = let a = sum-small f 7 p in let b = need-is p in omega arith
