-- The record and the memory of a tidy state are accepted again, with any event list that is lawful: the record has the
-- zero bits that rule 4 asks for, and the count is the state's. Assumes nothing.
use Prim.Native.Nat.{ℕ, ◌+◌, ◌/◌, ◌%◌, ◌<◌, ◌≤◌}
use native.Mathlib.Omega.{arith}
use mathlib.Core.Bool.{true, not}
use mathlib.Core.List.{List}
use mathlib.Core.Path.{◌≡◌, refl, sym, ap, ◌∙◌}
use mir.Val.{bool_byte}
use lib.ListN.{length}
use Rattle.std.specs.Prelude.{Ok}
use Rattle.word.proofs.Laws.{bit_le}
use Rattle.machine.specs.State.{State}
use Rattle.machine.specs.Memory.{byte_at}
use Rattle.machine.specs.Record.{two_at, four_at, state_in, record_of}
use Rattle.machine.specs.Refusal.{rules_of, record_fits, verdict_of}
use Rattle.machine_laws.specs.Bounds.{Tidy}
use Rattle.machine_laws.proofs.Cases.{is_eq, is_lt, not-lt, and_both}
use Rattle.machine_laws.proofs.Records.{record-read, start-count}
use Rattle.run_laws.proofs.Verdicts.{none-broken}
use Rattle.journal_laws.specs.On.{LawfulEvents}

psw-in : (r memory : List ℕ) → (state_in r memory).core.psw ≡ two_at r 16
unfolding state_in
psw-in r memory = refl

cex-in : (r memory : List ℕ) → (state_in r memory).core.cex ≡ two_at r 18
unfolding state_in
cex-in r memory = refl

module _ (s : State) (t : Tidy s) (fits : s.count ≤ 4294967295) where
  count-is : four_at (record_of s) 22 ≡ s.count
  count-is = sym (start-count (record_of s) s.mem) ∙ ap (λ u. u.count) (record-read s t fits)

  psw_is : two_at (record_of s) 16 ≡ s.core.psw
  psw_is = sym (psw-in (record_of s) s.mem) ∙ ap (λ u. u.core.psw) (record-read s t fits)

  cex-is : two_at (record_of s) 18 ≡ s.core.cex
  cex-is = sym (cex-in (record_of s) s.mem) ∙ ap (λ u. u.core.cex) (record-read s t fits)

  size_is : length (record_of s) ≡ 32
  unfolding record_of
  size_is = refl

  zero_20 : byte_at (record_of s) 20 ≡ 0
  unfolding record_of
  zero_20 = refl

  mark-is : byte_at (record_of s) 21 ≡ bool_byte s.halted
  unfolding record_of
  mark-is = refl

  zeros_30 : two_at (record_of s) 30 ≡ 0
  unfolding record_of
  zeros_30 = refl

  record-fits : record_fits (record_of s) ≡ true
  unfolding record_fits
  record-fits =
      let p : two_at (record_of s) 16 / 512 % 16 ≡ 0 = ap (λ n. n / 512 % 16) psw_is ∙ t.core.psw_zeros in
      let c : two_at (record_of s) 18 < 128 = let x = t.core.cex_small in let y = cex-is in omega arith in
      let m : byte_at (record_of s) 21 < 2 = let x = bit_le s.halted in let y = mark-is in omega arith in
      and_both (and_both (and_both (and_both (is_eq p) (is_lt c)) (is_eq zero_20)) (is_lt m)) (is_eq zeros_30)

  pub verdict-again : (events : List ℕ) (k : ℕ) → LawfulEvents events → k ≤ 1000000 → s.count + k ≤ 4294967295
      → verdict_of s.mem (record_of s) events k ≡ Ok tt
  unfolding verdict_of
  verdict-again events k e few h =
      let c = count-is in
      let sum : four_at (record_of s) 22 + k ≤ 4294967295 = omega arith in
      none-broken (rules_of s.mem (record_of s) events k) (
        ap not (is_eq t.size),
        (
          not-lt few,
          (
            ap not (is_eq size_is),
            (
              not-lt sum,
              (ap not record-fits, (ap not e.whole, (ap not e.fields, (ap not e.order, (e.twins, tt))))),
            ),
          ),
        ),
      )
