-- The count that is lowered is the first that is not 0, and whether its instructions are skipped. Assumes nothing.
use Rattle.std.proofs.Common.{◌≡◌, ◌/◌, ◌%◌, ◌<◌, ◌≤◌, Bool, true, false, not, eqb, sym, refl, ◌∙◌, arith, lt-ltb, eq-eqb, ne_eqb}
use mir.Val.{bool_byte}
use Rattle.machine.specs.Cex.{skips?}
use Rattle.entry.proofs.Quiet.{shut_none}
use Rattle.stretch.proofs.covered.Goals as goal

-- one step where it is not skipped
one : (b s : Bool) → s ≡ not b → ((bool_byte b ≡ 0 → s ≡ true) × (0 < bool_byte b → s ≡ false)) × (bool_byte b ≤ 1)
one true s e = (((λ z. absurd (omega arith)), (λ p. e)), omega arith)
one false s e = (((λ z. e), (λ p. absurd (omega arith))), omega arith)

twice : (b : Bool) → b ≡ not (not b)
twice true = refl
twice false = refl

pub returns-then-x-eq0 : goal.returns-then-x-eq0
returns-then-x-eq0 c =
    let o = shut_none c.args.x c.if-x-eq0.true in
    record {
      lowers = sym o.1;
      skips = ((λ z. absurd (omega (arith, z, c.requires))), (λ p. o.0));
      shut = (λ e. refl);
      one = (λ n. absurd (n c.if-x-eq0.true));
    }

pub returns-then-x-eq0-2 : goal.returns-then-x-eq0-2
returns-then-x-eq0-2 c =
    let x = c.args.x in
    let held = eqb (x / 64 % 2) 1 in
    let z = c.if-x-eq0-2.true in
    let shut = c.if-x-eq0.false in
    let some : x % 8 ≡ 0 → ⊥ = λ e. shut (omega arith) in
    let more : 0 < x % 8 = omega arith in
    let e : skips? x ≡ held = rw (eq-eqb _ _ z, lt-ltb 0 (x % 8) more) refl in
    let o = one (not held) (skips? x) (e ∙ twice held) in
    record { lowers = rw (eq-eqb _ _ z, ne_eqb _ _ some) refl; skips = o.0; shut = (λ h. absurd (shut h)); one = (λ n. o.1) }

pub returns : goal.returns
returns c =
    let x = c.args.x in
    let held = eqb (x / 64 % 2) 1 in
    let n = ne_eqb _ _ c.if-x-eq0-2.false in
    let e : skips? x ≡ not held = rw n refl in
    let o = one held (skips? x) e in
    record { lowers = rw n refl; skips = o.0; shut = (λ h. absurd (c.if-x-eq0.false h)); one = (λ n. o.1) }
