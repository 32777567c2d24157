-- The table of names as the code holds it: for each name its place in the source s, its key and its value, in an array
-- of 1,024 of which the first `count` are in use.
-- Assumes nothing.
use Rattle.std.specs.Prelude.{ℕ, ◌≤◌, ◌-◌, ◌≡◌, false, List, map, length, take, drop, get_or}
use Rattle.asm_text.specs.declared.Name.{Name}
use Rattle.asm_text.specs.Text.{word, key_of, names_at, name_byte?}
use Rattle.asm_sweeps.specs.declared.Tally.{Tally}
use Rattle.asm_sweeps.specs.Places.{Table, table}

-- the table that they stand for
abbrev pub table_at : (s : List ℕ) → List Name → Tally → Table
table_at s ms t =
    let held = take t.count ms in
    table (names_at s (map (λ (m : Name). m.place) held)) (map (λ (m : Name). m.value) held) t

-- the array is of 1,024, and each key is its name's
pub record Holds (s : List ℕ) (ms : List Name) (t : Tally) : Type 0 where
  pub size : length ms ≡ 1024
  pub within : t.count ≤ 1024
  pub keyed : map (λ (m : Name). m.key) (take t.count ms) ≡ map (λ (m : Name). key_of (word (drop m.place s))) (take t.count ms)

-- a line of the source from `at` to `stop`, and what stands there ends its last word
abbrev pub line_at : (s : List ℕ) (at stop : ℕ) → List ℕ
line_at s at stop = take (stop - at) (drop at s)

pub record Apart (s : List ℕ) (at stop : ℕ) : Type 0 where
  pub from : at ≤ stop
  pub to : stop ≤ length s
  pub ends : name_byte? (get_or s stop 0) ≡ false
