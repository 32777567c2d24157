-- Test by test, as in `verdict`, over the rules by the machine's fields: after k tests that were not met the verdict is the
-- first broken rule from rule k on (`So k`), and a test that is met gives its rule's verdict. Assumes nothing.
use Prim.Native.Nat.{ℕ, ◌+◌, ◌/◌, ◌%◌, ◌≤◌}
use mathlib.Core.Bool.{not}
use mathlib.Core.List.{List, []}
use mathlib.Core.Path.{◌≡◌, sym, ap, ◌∙◌}
use lib.ListN.{length, drop}
use borrow.Author.Tests.{eq-eqb, ne_eqb, lt-ltb, le-ltb}
use Rattle.machine.specs.declared.Rest.{Rest}
use Rattle.std.specs.Prelude.{Result}
use Rattle.machine.specs.declared.Refusal.{Refusal}
use Rattle.machine.specs.State.{state_of}
use Rattle.machine.specs.Record.{record_of}
use Rattle.machine.specs.Refusal.{Rule, first_broken, verdict_of}
use Rattle.event_rules.proofs.Laws.{holds, breaks}
use Rattle.refusal.proofs.Own.{field_rules, fields-verdict}
use Rattle.refusal.proofs.fields.start_verdict.Goals as goal

-- of the verdict `v`: the first broken rule is the first from rule k on
module _ (v : Result (Unit {0}) Refusal) (r : Rest) (memory events : List ℕ) (n : ℕ) where
  abbrev in_order : List Rule
  in_order = field_rules r memory events n

  abbrev So : ℕ → Type 0
  So k = v ≡ first_broken (drop k in_order)

  so-1 : So 0 → length memory ≡ 65536 → So 1
  so-1 s h = holds 0 in_order s (ap not (eq-eqb _ _ h))

  so-2 : So 0 → length memory ≡ 65536 → n ≤ 1000000 → So 2
  so-2 s a h = holds 1 in_order (so-1 s a) (le-ltb _ _ h)

  so-3 : So 0 → length memory ≡ 65536 → n ≤ 1000000 → r.count + n ≤ 4294967295 → So 3
  so-3 s a b h = holds 2 in_order (so-2 s a b) (le-ltb _ _ h)

  so-4 : So 0 → length memory ≡ 65536 → n ≤ 1000000 → r.count + n ≤ 4294967295 → r.psw / 512 % 16 ≡ 0 → So 4
  so-4 s a b d h = holds 3 in_order (so-3 s a b d) (ap not (eq-eqb _ _ h))

pub returns-then-memory-ne65536 : goal.returns-then-memory-ne65536
returns-then-memory-ne65536 c =
    let m = c.args.m in
    let a = c.args.memory.now in
    let b = c.args.events.now in
    let n = c.args.n in
    let v = verdict_of a (record_of (state_of m a)) b n in
    let s = fields-verdict m _ c.well_formed.0 a b n in
    breaks 0 (field_rules m.rest a b n) s (ap not (ne_eqb _ _ c.if-memory-ne65536.true))

pub returns-then-n-gt1000000 : goal.returns-then-n-gt1000000
returns-then-n-gt1000000 c =
    let m = c.args.m in
    let a = c.args.memory.now in
    let b = c.args.events.now in
    let n = c.args.n in
    let v = verdict_of a (record_of (state_of m a)) b n in
    let s = fields-verdict m _ c.well_formed.0 a b n in
    breaks 1 (field_rules m.rest a b n) (so-1 v m.rest a b n s c.if-memory-ne65536.false) (lt-ltb _ _ c.if-n-gt1000000.true)

pub returns-then-m-n-gt4294967295 : goal.returns-then-m-n-gt4294967295
returns-then-m-n-gt4294967295 c =
    let m = c.args.m in
    let a = c.args.memory.now in
    let b = c.args.events.now in
    let n = c.args.n in
    let v = verdict_of a (record_of (state_of m a)) b n in
    let s = fields-verdict m _ c.well_formed.0 a b n in
    breaks 2 (field_rules m.rest a b n) (so-2 v m.rest a b n s c.if-memory-ne65536.false c.if-n-gt1000000.false)
    (lt-ltb _ _ c.if-m-n-gt4294967295.true)

pub returns-then-m-ne0 : goal.returns-then-m-ne0
returns-then-m-ne0 c =
    let m = c.args.m in
    let a = c.args.memory.now in
    let b = c.args.events.now in
    let n = c.args.n in
    let v = verdict_of a (record_of (state_of m a)) b n in
    let s = fields-verdict m _ c.well_formed.0 a b n in
    breaks 3 (field_rules m.rest a b n)
    (so-3 v m.rest a b n s c.if-memory-ne65536.false c.if-n-gt1000000.false c.if-m-n-gt4294967295.false)
    (ap not (ne_eqb _ _ c.if-m-ne0.true))

pub returns-then-m-ge128 : goal.returns-then-m-ge128
returns-then-m-ge128 c =
    let m = c.args.m in
    let a = c.args.memory.now in
    let b = c.args.events.now in
    let n = c.args.n in
    let v = verdict_of a (record_of (state_of m a)) b n in
    let s = fields-verdict m _ c.well_formed.0 a b n in
    breaks 4 (field_rules m.rest a b n)
    (so-4 v m.rest a b n s c.if-memory-ne65536.false c.if-n-gt1000000.false c.if-m-n-gt4294967295.false c.if-m-ne0.false)
    (ap not (le-ltb _ _ c.if-m-ge128.true))

-- past the last test the rest is the event list's
pub returns : goal.returns
returns c =
    let m = c.args.m in
    let a = c.args.memory.now in
    let b = c.args.events.now in
    let n = c.args.n in
    let v = verdict_of a (record_of (state_of m a)) b n in
    let s = fields-verdict m _ c.well_formed.0 a b n in
    let t = so-4 v m.rest a b n s c.if-memory-ne65536.false c.if-n-gt1000000.false c.if-m-n-gt4294967295.false c.if-m-ne0.false in
    c.events_verdict.ensures [] [] 0 ∙ sym (holds 4 (field_rules m.rest a b n) t (ap not (lt-ltb _ _ c.if-m-ge128.false)))
