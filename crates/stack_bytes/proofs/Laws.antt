-- The figure turn by turn, and what is known of a call that is not refused. The dearest of a level goes device by device, the sum level by
-- level; uses that were judged to be at most 1,024 keep both far below what a number holds. Assumes nothing.
use Prim.Native.Nat.{ℕ, zero, suc, ◌+◌, ◌*◌, ◌<◌, ◌≤◌}
use mathlib.Core.Bool.{Bool, true, false, cond, not, ◌&&◌, ◌||◌, and-false, true≢false}
use mathlib.Core.List.{List}
use mathlib.Core.Logic.{◌≢◌}
use mathlib.Core.Path.{◌≡◌, refl, sym, ap, subst, ◌∙◌}
use native.Mathlib.Omega.{arith}
use native.Mathlib.Numerals.{add-one}
use lib.Dec.{eqb, ltb}
use lib.ListN.{length}
use Rattle.machine.specs.Record.{two_at}
use Rattle.machine_laws.proofs.Cases.{bool_cases, eq_of, neq-of}
use Rattle.machine.specs.Depth.{greater}
use Rattle.stack_need.specs.Need.{given?, level_of, cost_of, dearest, sum_above, uses_fit, need_refused?, need_of, need_reply}
use Rattle.stack_need.proofs.Need.{need-is, top_small, sum-small}

module _ (vectors : List ℕ) (devices : ℕ) (uses : List ℕ) where
  -- ---- the dearest of a level

  pub dearest-none : (l : ℕ) → 0 ≡ dearest vectors devices uses 0 l
  unfolding dearest
  dearest-none l = refl

  pub dearest-next : (d l m x : ℕ) → m ≡ dearest vectors devices uses d l
      → x ≡ cond (given? devices d && eqb (level_of vectors d) l) (greater m (cost_of uses d)) m
      → x ≡ dearest vectors devices uses (d + 1) l
  unfolding dearest
  dearest-next d l m x hm hx =
      hx
      ∙ ap (λ y. cond (given? devices d && eqb (level_of vectors d) l) (greater y (cost_of uses d)) y) hm
      ∙ ap (λ n. dearest vectors devices uses n l) (sym (add-one d))

  -- ---- the sum over the levels

  pub sum-none : (p : ℕ) → 0 ≡ sum_above vectors devices uses 0 p
  unfolding sum_above
  sum-none p = refl

  -- neither the sum nor what a level adds outgrows a number of the machine
  pub sum-bounded : uses_fit uses 8 ≡ true → (l p s : ℕ) → s ≡ sum_above vectors devices uses l p → s ≤ l * 1032
  sum-bounded f l p s e = let a = sum-small vectors devices uses f l p in omega arith

  pub level-bounded : uses_fit uses 8 ≡ true → (l p x : ℕ) → x ≡ cond (ltb p l) (dearest vectors devices uses 8 l) 0 → x ≤ 1032
  level-bounded f l p x e =
      let a = top_small vectors devices uses f 8 l (omega arith) in
      let b : cond (ltb p l) (dearest vectors devices uses 8 l) 0 ≤ 1032 =
      bool_cases (ltb p l) (λ q. rw q a) (λ q. rw q (omega arith)) in
      omega arith

  pub sum-next : (l p s x : ℕ) → s ≡ sum_above vectors devices uses l p
      → x ≡ cond (ltb p (l + 1)) (dearest vectors devices uses 8 (l + 1)) 0 → s + x ≡ sum_above vectors devices uses (l + 1) p
  unfolding sum_above
  sum-next l p s x hs hx =
      let e : x ≡ cond (ltb p (suc l)) (dearest vectors devices uses 8 (suc l)) 0 =
      hx ∙ ap (λ n. cond (ltb p n) (dearest vectors devices uses 8 n) 0) (add-one l) in
      let a : s + x ≡ cond (ltb p (suc l)) (dearest vectors devices uses 8 (suc l)) 0 + sum_above vectors devices uses l p = omega arith in
      a ∙ ap (λ n. sum_above vectors devices uses n p) (sym (add-one l))

-- ---- the uses

pub fit_none : (uses : List ℕ) → uses_fit uses 0 ≡ true
unfolding uses_fit
fit_none uses = refl

pub fit_next : (uses : List ℕ) (d : ℕ) → uses_fit uses d ≡ true → ltb 1024 (two_at uses (2 * d)) ≡ false → uses_fit uses (d + 1) ≡ true
unfolding uses_fit
fit_next uses d h e = ap (uses_fit uses) (add-one d) ∙ (λ i. not (e i) && h i)

pub unfit-below : (uses : List ℕ) (d n : ℕ) → d < n → ltb 1024 (two_at uses (2 * d)) ≡ true → uses_fit uses n ≡ false
unfolding uses_fit
unfit-below uses d zero h e = absurd (omega arith)
unfit-below uses d (suc n) h e =
    bool_cases (eqb d n)
    (λ q. ap (λ t. not t && uses_fit uses n) (subst (λ i. ltb 1024 (two_at uses (2 * i)) ≡ true) (eq_of q) e)) (λ q.
    let u : d ≢ n = neq-of q in
    ap (λ t. not (ltb 1024 (two_at uses (2 * n))) && t) (unfit-below uses d n (omega arith) e)
    ∙ and-false (not (ltb 1024 (two_at uses (2 * n)))))

-- ---- a call that is not refused

pub record Fits (vectors uses : List ℕ) : Type 0 where
  pub vectors-length : length vectors ≡ 64
  pub uses-length : length uses ≡ 16
  pub uses-fit : uses_fit uses 8 ≡ true

tests : (a b c d : Bool) → not a || not b || c || not d ≡ false → (a ≡ true) × (b ≡ true) × (d ≡ true)
tests true true false true e = (refl, refl, refl)
tests true true false false e = absurd (true≢false e)
tests true true true d e = absurd (true≢false e)
tests true false c d e = absurd (true≢false e)
tests false b c d e = absurd (true≢false e)

pub fits : (vectors uses : List ℕ) (p : ℕ) → need_refused? vectors uses p ≡ false → Fits vectors uses
unfolding need_refused?
fits vectors uses p e =
    let t = tests (eqb (length vectors) 64) (eqb (length uses) 16) (ltb 7 p) (uses_fit uses 8) e in
    record { vectors-length = eq_of t.0; uses-length = eq_of t.1; uses-fit = t.2 }

-- ---- the reply

module _ (vectors : List ℕ) (devices : ℕ) (uses : List ℕ) (p : ℕ) where
  pub reply-refused : (b : Bool) → b ≡ need_refused? vectors uses p → b ≡ true → 16 ≡ need_reply vectors devices uses p
  unfolding need_reply
  reply-refused b hb h = sym (ap (λ t. cond t 16 (256 * need_of vectors devices uses p)) (sym hb ∙ h))

  pub reply-bytes : (b : Bool) (x : ℕ) → b ≡ need_refused? vectors uses p → b ≡ false → x ≡ sum_above vectors devices uses 7 p
      → x * 256 ≡ need_reply vectors devices uses p
  unfolding need_reply
  reply-bytes b x hb h hx =
      let n = need-is vectors devices uses p in
      let a : x * 256 ≡ 256 * need_of vectors devices uses p = omega arith in
      a ∙ sym (ap (λ t. cond t 16 (256 * need_of vectors devices uses p)) (sym hb ∙ h))
