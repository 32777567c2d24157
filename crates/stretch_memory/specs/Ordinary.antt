-- The accesses that a stretch grants; every other is left to the general way.
-- Assumes nothing.
use Rattle.std.specs.Prelude.{ℕ, ◌%◌, Bool, true, false, ◌&&◌, ◌||◌, ◌==◌, nat_le, nat_lt}
use Rattle.machine.specs.declared.Access.{Access}
use Rattle.machine.specs.declared.Access.TheVariants.{Nothing, Load, Store, Fault, Trap}

-- A byte anywhere, a word at an even address. [01 State and memory]
abbrev pub aligned? : (byte : Bool) → ℕ → Bool
aligned? byte a = byte || a % 2 == 0

-- Past the device bytes and below the vectors: nothing is shown, and no line's priority changes. [01 Devices; 01 Entry]
abbrev pub inside? : ℕ → Bool
inside? a = nat_le 0x10 a && nat_lt a 0xFFC0

abbrev pub storable? : (byte : Bool) → ℕ → Bool
storable? byte a = inside? a && aligned? byte a

abbrev pub ordinary? : Access → Bool
ordinary? Nothing = true
ordinary? (Load byte a d) = aligned? byte a.0
ordinary? (Store byte a v) = storable? byte a.0
ordinary? (Fault v) = false
ordinary? (Trap v) = false
