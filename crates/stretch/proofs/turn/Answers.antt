-- Steps that the block skips, one that it covers or that is left alone, or steps with no block open. What was walked is said of the
-- lowered CEX state; the laws of Steps say it of the state before. Assumes nothing.
use Rattle.std.proofs.Common.{◌≡◌, ℕ, ◌+◌, ◌-◌, ◌%◌, ◌<◌, ◌≤◌, eqb, ◌⊎◌, sym, refl, ap, ◌∙◌, subst, inl, inr, arith}
use mathlib.Core.Bool.{false≢true}
use borrow.Author.Tests.{eqb-false}
use Rattle.flags.specs.Kept.{held_in}
use Rattle.machine_laws.proofs.Cases.{bool_cases, eq_of}
use Rattle.entry.proofs.Quiet.{shut_none}
use Rattle.stretch.proofs.Steps.{goes-join, lowered-shut, walked-free, walked_one, walked_none, walked-left}
use Rattle.stretch.proofs.turn.Goals as goal
use Rattle.stretch.proofs.turn.Goals.{Start}

-- the PSW before the turn
abbrev first : Start → ℕ
first c = let a = c.args in held_in a.psw.now a.kept.now

-- steps that the block skips
pub skipping-requires : goal.skipping-requires
skipping-requires c =
    let (_, fetching, some) = c.requires in
    (fetching.0, c.covered-c.ensures.skips.0 c.if-c-eq0.true, some)

pub returns-then-c-eq0 : goal.returns-then-c-eq0
returns-then-c-eq0 c =
    let s : Start = search in
    let (_, fetching, _) = c.requires in
    let h = c.skipping.ensures in
    record {
      goes = λ l none. h.goes l (first s) c.args.mem.now fetching.1.0;
      left = (omega (arith, h.left), (λ e. h.left), (fetching.1.0, omega (arith, c.skipping.array_long)));
    }

-- where no block is open, or for one step
few : (n left x y : ℕ) → ((x % 64 ≡ 0 → ⊥) → n ≤ 1) → (x % 64 ≡ 0 → y ≡ x) → (y % 64 ≡ 0) ⊎ (n ≤ 1)
few n left x y g h =
    bool_cases (eqb (x % 64) 0)
    (λ e. let z : x % 64 ≡ 0 = eq_of e in inl (ap (λ (k : ℕ). k % 64) (h z) ∙ z)) (λ e. inr (g (eqb-false (x % 64) 0 e)))

pub take_steps-a-requires : goal.take_steps-a-requires
take_steps-a-requires c =
    let k = c.covered-c in
    let x = c.args.cex in
    let (table, fetching, _) = c.requires in (
      table,
      fetching,
      few k.result.left c.args.left x k.result.cex k.ensures.one (λ h. k.ensures.lowers ∙ (shut_none x h).1),
    )

-- with no block open and no word left
pub returns-then-a-eq0 : goal.returns-then-a-eq0
returns-then-a-eq0 c =
    let s : Start = search in
    let a = c.args in
    let k = c.covered-c.ensures in
    let w = c.take_steps-a.ensures in
    let o = w.left in
    record {
      goes =
          walked-free a.free a.regs.now a.mem.now _ _ (first s) a.cex _ _ _ _ a.left _ 0 k.lowers k.shut c.if-a-eq0.true
          c.if-cex-eq0.true w.walked;
      left = (omega arith, (λ e. absurd (false≢true e)), o.1);
    }

pub control-requires : goal.control-requires
control-requires c =
    let o = c.take_steps-a.ensures in (
      o.shut (lowered-shut c.args.cex _ c.covered-c.ensures.lowers c.if-cex-eq0.true),
      omega (arith, c.if-a-eq0.false),
    )

-- and the word that ended them
pub returns-then-cex-eq0 : goal.returns-then-cex-eq0
returns-then-cex-eq0 c =
    let s : Start = search in
    let a = c.args in
    let k = c.covered-c.ensures in
    let z = c.if-cex-eq0.true in
    let w = c.take_steps-a.ensures in
    let o = w.left in
    let r = c.take_steps-a.result.left in
    let p = c.control.ensures in
    let q = c.control.result.left in
    let le : r ≤ a.left = subst (λ (n : ℕ). r ≤ n) (k.shut z) o.0 in
    let e : a.left - q ≡ a.left - r + (r - q) = omega (arith, le, p.left.0) in
    record {
      goes =
          λ l none.
          rw e
          (goes-join l a.regs.now a.mem.now (first s) a.cex _ _ _ _ _ _ _ _ _ _
          (walked-free a.free a.regs.now a.mem.now _ _ (first s) a.cex _ _ _ _ a.left r r k.lowers k.shut refl z w.walked l none)
          (p.goes l _ o.1.0));
      left = (
        omega (arith, le, p.left.0),
        (λ m. let g = p.left.1 m in omega (arith, le, g)),
        (o.1.0, omega (arith, c.control.array_long)),
      );
    }

-- one step may be taken in an open block
pub returns-then-a-eq1 : goal.returns-then-a-eq1
returns-then-a-eq1 c =
    let s : Start = search in
    let a = c.args in
    let k = c.covered-c in
    let w = c.take_steps-a.ensures in
    let n = k.ensures.one c.if-cex-eq0.false in
    let j : k.result.left - c.take_steps-a.result.left ≡ 0 = omega (arith, n, c.if-a-eq1.true) in
    let z : a.left - a.left ≡ 0 = omega arith in
    let u = walked-left a.free a.regs.now a.mem.now _ _ (first s) _ _ _ _ w.walked j in
    rw (u.1, z)
    (record {
      goes = λ l none. walked_none a.free a.regs.now a.mem.now _ _ (first s) _ _ _ _ w.walked l a.cex j;
      left = (omega arith, (λ e. absurd (false≢true e)), rw (sym u.1) w.left.1);
    })

pub returns : goal.returns
returns c =
    let s : Start = search in
    let a = c.args in
    let k = c.covered-c in
    let r = c.take_steps-a.result.left in
    let w = c.take_steps-a.ensures in
    let some : 0 < k.result.left = omega (arith, c.if-c-eq0.false) in
    let n = k.ensures.one c.if-cex-eq0.false in
    let lt = c.requires.2 in
    let none : r ≡ 0 = omega (arith, w.left.0, n, c.if-a-eq1.false) in
    let e : a.left - (a.left - 1) ≡ k.result.left - r = omega (arith, lt, some, n, none) in
    let all : k.result.left - r ≡ 0 → ⊥ = λ z. omega (arith, z, some, none) in
    record {
      goes =
          λ l free.
          rw e
          (walked_one a.free a.regs.now a.mem.now _ _ (first s) _ _ _ _ w.walked l a.cex free (k.ensures.skips.1 some)
          (sym k.ensures.lowers) all);
      left = (omega (arith, lt), (λ m. omega (arith, lt)), w.left.1);
    }
