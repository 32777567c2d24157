-- Test by test: after k tests that were not met the verdict is the first broken rule from rule k on (`So k`), and a test that
-- is met gives its rule's verdict. Assumes nothing.
use Prim.Native.Nat.{ℕ, ◌+◌, ◌≤◌}
use mathlib.Core.Bool.{Bool, true, not}
use mathlib.Core.List.{List}
use mathlib.Core.Path.{◌≡◌, refl, sym, ap, ◌∙◌}
use lib.Dec.{ltb}
use lib.ListN.{length, drop}
use borrow.Author.Tests.{eq-eqb, ne_eqb, lt-ltb, le-ltb}
use Rattle.machine.specs.Record.{four_at}
use Rattle.machine.specs.Refusal.{record_fits, Rule, rules_of, first_broken, verdict_of}
use Rattle.event_rules.proofs.Laws.{holds, breaks}
use Rattle.refusal.proofs.Laws.{count-in}
use Rattle.refusal.proofs.verdict.Goals as goal

module _ (memory state events : List ℕ) (n : ℕ) where
  abbrev in_order : List Rule
  in_order = rules_of memory state events n

  abbrev So : ℕ → Type 0
  So k = verdict_of memory state events n ≡ first_broken (drop k in_order)

  so-0 : So 0
  unfolding verdict_of
  so-0 = refl

  so-1 : length memory ≡ 65536 → So 1
  so-1 h = holds 0 in_order so-0 (ap not (eq-eqb _ _ h))

  so-2 : length memory ≡ 65536 → n ≤ 1000000 → So 2
  so-2 a h = holds 1 in_order (so-1 a) (le-ltb _ _ h)

  so-3 : length memory ≡ 65536 → n ≤ 1000000 → length state ≡ 32 → So 3
  so-3 a b h = holds 2 in_order (so-2 a b) (ap not (eq-eqb _ _ h))

  so-4 : length memory ≡ 65536 → n ≤ 1000000 → length state ≡ 32 → (x : ℕ) → four_at state 22 ≡ x → x + n ≤ 4294967295 → So 4
  so-4 a b d x e h = holds 3 in_order (so-3 a b d) (ap (λ v. ltb 4294967295 (v + n)) e ∙ le-ltb _ _ h)

  so-5 : So 4 → {t : Bool} → t ≡ record_fits state → t ≡ true → So 5
  so-5 s e h = holds 4 in_order s (ap not (sym e ∙ h))

pub returns-then-memory-ne65536 : goal.returns-then-memory-ne65536
returns-then-memory-ne65536 c =
    let a = c.args.memory.now in
    let s = c.args.state.now in
    let b = c.args.events.now in
    let n = c.args.n in
    breaks 0 (in_order a s b n) (so-0 a s b n) (ap not (ne_eqb _ _ c.if-memory-ne65536.true))

pub returns-then-n-gt1000000 : goal.returns-then-n-gt1000000
returns-then-n-gt1000000 c =
    let a = c.args.memory.now in
    let s = c.args.state.now in
    let b = c.args.events.now in
    let n = c.args.n in
    breaks 1 (in_order a s b n) (so-1 a s b n c.if-memory-ne65536.false) (lt-ltb _ _ c.if-n-gt1000000.true)

pub returns-then-state-ne32 : goal.returns-then-state-ne32
returns-then-state-ne32 c =
    let a = c.args.memory.now in
    let s = c.args.state.now in
    let b = c.args.events.now in
    let n = c.args.n in
    breaks 2 (in_order a s b n) (so-2 a s b n c.if-memory-ne65536.false c.if-n-gt1000000.false) (ap not (ne_eqb _ _ c.if-state-ne32.true))

-- the count that was read, once the record has its length
pub returns-then-sum-gt4294967295 : goal.returns-then-sum-gt4294967295
returns-then-sum-gt4294967295 c =
    let a = c.args.memory.now in
    let s = c.args.state.now in
    let b = c.args.events.now in
    let n = c.args.n in
    let e = count-in s _ c.count_of.ensures c.if-state-ne32.false in
    breaks 3 (in_order a s b n) (so-3 a s b n c.if-memory-ne65536.false c.if-n-gt1000000.false c.if-state-ne32.false)
    (ap (λ v. ltb 4294967295 (v + n)) e ∙ lt-ltb _ _ c.if-sum-gt4294967295.true)

pub returns-then-not-record_fits : goal.returns-then-not-record_fits
returns-then-not-record_fits c =
    let a = c.args.memory.now in
    let s = c.args.state.now in
    let b = c.args.events.now in
    let n = c.args.n in
    let e = count-in s _ c.count_of.ensures c.if-state-ne32.false in
    let t = so-4 a s b n c.if-memory-ne65536.false c.if-n-gt1000000.false c.if-state-ne32.false _ e c.if-sum-gt4294967295.false in
    breaks 4 (in_order a s b n) t (ap not (sym c.record_fits.ensures ∙ c.if-not-record_fits.true))

-- and the rest is the event list's
pub returns : goal.returns
returns c =
    let a = c.args.memory.now in
    let s = c.args.state.now in
    let b = c.args.events.now in
    let n = c.args.n in
    let e = count-in s _ c.count_of.ensures c.if-state-ne32.false in
    let t = so-4 a s b n c.if-memory-ne65536.false c.if-n-gt1000000.false c.if-state-ne32.false _ e c.if-sum-gt4294967295.false in
    c.events_verdict.ensures a s n ∙ sym (so-5 a s b n t c.record_fits.ensures c.if-not-record_fits.false)
