-- What holds of the ranges, as statements; the proofs folder has a proof of each. Assumes nothing.
use Rattle.std.specs.Prelude.{ℕ, suc, ◌-◌, ◌<◌, ◌≤◌, ◌≡◌, ◌⊎◌}
use mathlib.Core.List.{length}
use Rattle.isa_ranges.specs.Operation.{operation_of}
use Rattle.isa_ranges.specs.Ranges.{rows, operation_among, first_of, last_of}

-- Every word has the operation that its row gives. [02 §4; 003 14]
abbrev pub RowOperation : Type 0
RowOperation = (w : ℕ) → w < 65536 → operation_of w ≡ operation_among rows w

-- There are 52 ranges. [02 §4]
abbrev pub RowCount : Type 0
RowCount = length rows ≡ 52

-- The range is around its word. [02 §4]
abbrev pub Around : Type 0
Around = (w : ℕ) → w < 65536 → (first_of w ≤ w) × (w ≤ last_of w) × (last_of w < 65536)

-- Unbroken: each word from first to last has w's operation. [02 §4]
abbrev pub Unbroken : Type 0
Unbroken = (w : ℕ) → w < 65536 → (v : ℕ) → first_of w ≤ v → v ≤ last_of w → operation_of v ≡ operation_of w

-- Longest: no word is below the first, or the one below it has another operation; and likewise above the last. [02 §4]
abbrev pub LongestBelow : Type 0
LongestBelow = (w : ℕ) → w < 65536 → (first_of w ≡ 0) ⊎ (operation_of (first_of w - 1) ≡ operation_of w → ⊥)

abbrev pub LongestAbove : Type 0
LongestAbove = (w : ℕ) → w < 65536 → (last_of w ≡ 0xFFFF) ⊎ (operation_of (suc (last_of w)) ≡ operation_of w → ⊥)
