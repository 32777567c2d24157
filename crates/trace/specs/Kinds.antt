-- Sets of kinds, and steps in which no event is due: what the laws of the trace speak of.
-- Assumes nothing.
use Rattle.std.specs.Prelude.{ℕ, ◌<◌, ◌≤◌, true, false, List, ◌≢◌, ◌≡◌}
use Rattle.word.specs.Psw.{bit_of}
use Rattle.machine.specs.Events.{Event}
use Rattle.machine_laws.specs.Bounds.{Each}

-- all twelve kinds, and those of acts. [call trace]
abbrev pub all_kinds : ℕ
all_kinds = 4095

abbrev pub act_kinds : ℕ
act_kinds = 4094

-- Every kind of the set a is one of the set b. [call trace]
abbrev pub Fewer : (a b : ℕ) → Type 0
Fewer a b = (k : ℕ) → k < 12 → bit_of k a ≡ true → bit_of k b ≡ true

-- Sleep, skip, plain, load and store are not asked for: kinds 4, 7, 9, 10, 11. [call trace]
pub record Sparse (kinds : ℕ) : Type 0 where
  pub sleep : bit_of 4 kinds ≡ false
  pub skip : bit_of 7 kinds ≡ false
  pub plain : bit_of 9 kinds ≡ false
  pub load : bit_of 10 kinds ≡ false
  pub store : bit_of 11 kinds ≡ false

-- No event is of step k; of the steps from a up to b. [01 One step, in order, 1]
abbrev pub NoneOf : List Event → (k : ℕ) → Type 0
NoneOf ev k = Each (λ (e : Event). e.step ≢ k) ev

abbrev pub Quiet : List Event → (a b : ℕ) → Type 0
Quiet ev a b = (k : ℕ) → a ≤ k → k < b → NoneOf ev k
