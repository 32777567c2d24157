-- Lines that count (document 02, §7), by what each device's count does. The proofs are in proofs/Lines.antt; that lines
-- of 0 are no line waiting is `none-waiting-iff-zero` there. Assumes nothing.
use Rattle.std.specs.Prelude.{ℕ, ◌+◌, ◌-◌, ◌<◌, cond, ◌≢◌, ◌≡◌, ltb}
use Rattle.machine.specs.Devices.{events_waiting, raised, fallen}

-- An event that raises a line: "0 to 15, staying at 15 when full". [02 §7]
abbrev pub CountsOne : Type 0
CountsOne = (l d : ℕ) → events_waiting (raised l d) d ≡ cond (ltb (events_waiting l d) 15) (events_waiting l d + 1) 15

-- "an acceptance or chained entry takes one". [02 §7]
abbrev pub TakesOne : Type 0
TakesOne = (l d : ℕ) → events_waiting (fallen l d) d ≡ events_waiting l d - 1

-- Every other device's count stays. [02 §7]
abbrev pub OthersStay : Type 0
OthersStay =
    (l d e : ℕ) → e ≢ d →
    (events_waiting (raised l d) e ≡ events_waiting l e) × (events_waiting (fallen l d) e ≡ events_waiting l e)

-- "No line waiting" means eight zero counts. [02 §7, for 01 Resumption]
abbrev pub NoneWaiting : (lines : ℕ) → Type 0
NoneWaiting l = (d : ℕ) → d < 8 → events_waiting l d ≡ 0
