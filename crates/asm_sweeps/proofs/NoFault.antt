-- What a verdict of no fault says of the three sweeps. Assumes nothing.
use mathlib.Core.Path.{◌≡◌, refl, ap}
use Prim.Native.Nat.{ℕ}
use native.Mathlib.Omega.{arith}
use Rattle.std.specs.Prelude.{Option, Some, None, Result, Ok, Err}
use Rattle.std.specs.Option.{option_or}
use Rattle.std.specs.Result.{result_and}
use Rattle.asm_sweeps.specs.declared.Tally.{Tally}
use Rattle.asm_sweeps.specs.declared.Fault.{Fault}
use Rattle.asm_sweeps.specs.declared.Refusal.{Refusal}
use Rattle.asm_sweeps.specs.Uses.{least_of, refused, verdict_for}
use Rattle.asm_sweeps.proofs.Laws.{Clean}

-- 1 for a refusal
abbrev count : Result Unit Refusal → ℕ
count (Ok x) = 0
count (Err r) = 1

abbrev lines : Option ℕ → ℕ
lines None = 0
lines (Some n) = 1

pub refused-not : (r : Refusal) → ◌≡◌ {A = Result Unit Refusal} (Err r) (Ok tt) → ⊥
refused-not r e = let z : 1 ≡ 0 = ap count e in absurd (omega (arith, z))

both : (a b : Result Unit Refusal) → result_and a b ≡ Ok tt → (a ≡ Ok tt) × (b ≡ Ok tt)
both (Ok tt) b e = (refl, e)
both (Err r) b e = absurd (refused-not r e)

none : (k : Fault) (l : Option ℕ) → refused k l ≡ Ok tt → l ≡ None
none k None e = refl
none k (Some n) e = absurd (refused-not _ e)

-- no line is the lesser of two: neither is one
least-none : (a b : Option ℕ) → least_of a b ≡ None → (a ≡ None) × (b ≡ None)
unfolding least_of
least-none None b e = (refl, e)
least-none (Some n) None e = let z : 1 ≡ 0 = ap lines e in absurd (omega (arith, z))
least-none (Some n) (Some m) e = let z : 1 ≡ 0 = ap lines e in absurd (omega (arith, z))

or-none : (a b : Option ℕ) → option_or a b ≡ None → (a ≡ None) × (b ≡ None)
or-none None b e = (refl, e)
or-none (Some n) b e = let z : 1 ≡ 0 = ap lines e in absurd (omega (arith, z))

-- every line fits a statement, and neither sweep noted a fault
pub verdict-clean : (form : Option ℕ) (t u : Tally) → verdict_for form t u ≡ Ok tt → (form ≡ None) × Clean t × Clean u
unfolding verdict_for
verdict-clean form t u h =
    let a = both _ _ h in
    let b = both _ _ a.1 in
    let l = least-none t.unknown u.unknown (none _ _ b.0) in
    let o = or-none t.outside u.outside (none _ _ b.1) in
    (none _ _ a.0, (l.0, o.0), (l.1, o.1))
