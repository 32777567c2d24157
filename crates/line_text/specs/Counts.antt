-- Where the printed line has each device's count (document 02, §7). The proof is proofs/Counts.antt.
-- Assumes nothing.
use Rattle.std.specs.Prelude.{ℕ, [], ◌∷◌, ◌≡◌}
use Rattle.machine.specs.Devices.{events_waiting}
use Rattle.text.specs.Text.{glyph, hex_of}

-- The lines as they are printed: one digit a device, "device 7 first". [02 §7]
abbrev pub CountsPrinted : Type 0
CountsPrinted =
    (l : ℕ) → hex_of 8 l
    ≡ glyph (events_waiting l 7) ∷ glyph (events_waiting l 6) ∷ glyph (events_waiting l 5) ∷ glyph (events_waiting l 4)
    ∷ glyph (events_waiting l 3) ∷ glyph (events_waiting l 2) ∷ glyph (events_waiting l 1) ∷ glyph (events_waiting l 0) ∷ []
