-- The verdict on a run call: that on its start, and then the log's length. The call's rules are the start's and one more behind them, and
-- the first rule that is broken decides. Assumes nothing.
use Prim.Native.Nat.{ℕ, ◌+◌, ◌%◌, ◌≤◌}
use native.Mathlib.Omega.{arith}
use mathlib.Core.Bool.{false, cond, not}
use mathlib.Core.List.{List, [], ◌∷◌, ◌++◌}
use mathlib.Core.Logic.{◌≢◌}
use mathlib.Core.Path.{◌≡◌, refl, sym, ap, ◌∙◌}
use lib.Dec.{eqb, ltb}
use lib.ListN.{length}
use borrow.Author.Tests.{not-false}
use Rattle.std.specs.Prelude.{Ok, Err}
use Rattle.machine.specs.declared.Refusal.{Refusal}
use Rattle.machine.specs.declared.Refusal.TheVariants.{LogLength}
use Rattle.machine.specs.Record.{four_at}
use Rattle.machine.specs.Refusal.{Rule, rule, rules_of, first_broken, verdict_of, call_verdict, refusal_number, accepted?}
use Rattle.machine_laws.specs.Bounds.{Each}
use Rattle.machine_laws.proofs.Cases.{bool_cases, eq_of, is_eq, not-eq, not-lt}
use Rattle.machine_laws.proofs.Records.{passed, not-met, is-refused, accepted-is}

-- rules of which none is broken, and all of them once none is
pub none-broken : (xs : List Rule) → Each (λ (x : Rule). x.broken ≡ false) xs → first_broken xs ≡ Ok tt
none-broken [] e = refl
none-broken (x ∷ xs) e = ap (λ b. cond b (Err x.refusal) (first_broken xs)) e.0 ∙ none-broken xs e.1

pub broken-none : (xs : List Rule) → first_broken xs ≡ Ok tt → Each (λ (x : Rule). x.broken ≡ false) xs
broken-none [] e = tt
broken-none (x ∷ xs) e =
    let p = not-met x.broken x.refusal (first_broken xs) e in
    (p.0, broken-none xs p.1)

-- some rules, and then others
pub first_then : (xs ys : List Rule)
    → first_broken (xs ++ ys) ≡ cond (accepted? (first_broken xs)) (first_broken ys) (first_broken xs)
first_then [] ys = refl
first_then (x ∷ xs) ys = bool_cases x.broken (λ q. rw q refl) (λ q. rw q (first_then xs ys))

module _ (memory r events log : List ℕ) (n : ℕ) where
  -- the log's length is looked at once the start has passed
  pub call-verdict : call_verdict memory r events log n
      ≡ cond (accepted? (verdict_of memory r events n))
      (cond (not (eqb (length log % 8) 0)) (Err LogLength) (Ok tt)) (verdict_of memory r events n)
  unfolding verdict_of call_verdict
  call-verdict = first_then (rules_of memory r events n) (rule (not (eqb (length log % 8) 0)) LogLength ∷ [])

  -- a start that is refused is refused with its own number, whatever the log
  pub verdict-first : refusal_number (verdict_of memory r events n) ≢ 0 → call_verdict memory r events log n ≡ verdict_of memory r events n
  verdict-first h =
      call-verdict
      ∙ ap (λ b. cond b (cond (not (eqb (length log % 8) 0)) (Err LogLength) (Ok tt)) (verdict_of memory r events n))
      (is-refused (verdict_of memory r events n) h)

  pub start-refused : (x : Refusal) → verdict_of memory r events n ≡ Err x → call_verdict memory r events log n ≡ Err x
  start-refused x e =
      call-verdict ∙ ap (λ v. cond (accepted? v) (cond (not (eqb (length log % 8) 0)) (Err LogLength) (Ok tt)) v) e

  start-passed : verdict_of memory r events n ≡ Ok tt
      → call_verdict memory r events log n ≡ cond (not (eqb (length log % 8) 0)) (Err LogLength) (Ok tt)
  start-passed a =
      call-verdict ∙ ap (λ v. cond (accepted? v) (cond (not (eqb (length log % 8) 0)) (Err LogLength) (Ok tt)) v) a

  pub verdict-nine : verdict_of memory r events n ≡ Ok tt → length log % 8 ≢ 0 → call_verdict memory r events log n ≡ Err LogLength
  verdict-nine a h = start-passed a ∙ ap (λ b. cond (not b) (Err LogLength) (Ok tt)) (not-eq h)

  pub call-accepts : verdict_of memory r events n ≡ Ok tt → length log % 8 ≡ 0 → call_verdict memory r events log n ≡ Ok tt
  call-accepts a h = start-passed a ∙ ap (λ b. cond (not b) (Err LogLength) (Ok tt)) (is_eq h)

  -- what an accepted call has settled: its start, and the log's length
  pub call-start : call_verdict memory r events log n ≡ Ok tt → verdict_of memory r events n ≡ Ok tt
  call-start e =
      bool_cases (accepted? (verdict_of memory r events n))
      (accepted-is (verdict_of memory r events n)) (λ q. let whole = cond (not (eqb (length log % 8) 0)) (Err LogLength) (Ok tt)
      in
      sym (call-verdict ∙ ap (λ b. cond b whole (verdict_of memory r events n)) q) ∙ e)

  pub call-whole : call_verdict memory r events log n ≡ Ok tt → length log % 8 ≡ 0
  call-whole e =
      let p = not-met (not (eqb (length log % 8) 0)) LogLength (Ok tt) (sym (start-passed (call-start e)) ∙ e) in
      eq_of (not-false (eqb (length log % 8) 0) p.0)

-- a start accepted for n steps is accepted for fewer
pub verdict-fewer : (memory r events : List ℕ) (n j : ℕ) → j ≤ n → verdict_of memory r events n ≡ Ok tt
    → verdict_of memory r events j ≡ Ok tt
unfolding verdict_of
verdict-fewer memory r events n j h a =
    let p = passed memory r events n a in
    let few = p.few_steps in
    let fits = p.count_fits in
    let few-j : j ≤ 1000000 = omega arith in
    let fits-j : four_at r 22 + j ≤ 4294967295 = omega arith in
    let e : ltb 1000000 j ≡ ltb 1000000 n = not-lt few-j ∙ sym (not-lt few) in
    let f : ltb 4294967295 (four_at r 22 + j) ≡ ltb 4294967295 (four_at r 22 + n) = not-lt fits-j ∙ sym (not-lt fits) in
    rw (e, f) a
