-- What a step shows, as the code has it, and as the definition lists it (document 02, §1).
-- Assumes nothing.
use Rattle.std.specs.Prelude.{ℕ, Bool, true, false, List, [], ◌∷◌, Option, None, Some}
use Rattle.machine.specs.Memory.{low_byte, high_byte}
use Rattle.machine.specs.Log.{Shown, shown}
use Rattle.output_log.specs.declared.Showing.{Showing}

-- the byte that a store leaves at the odd address of its word. [02 §1]
abbrev pub stored_of : (byte : Bool) → ℕ → ℕ
stored_of true v = low_byte v
stored_of false v = high_byte v

-- its records, the step count being n. [02 §1]
abbrev pub listed : (n : ℕ) → Option Showing → List Shown
listed n None = []
listed n (Some x) = shown n x.device x.value ∷ []
