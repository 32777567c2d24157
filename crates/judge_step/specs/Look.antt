-- What code sees of a step between its plan and its end (document 01, "Resumption"; document 02, §13).
-- Assumes nothing.
use Rattle.std.specs.Prelude.{ℕ, ◌+◌, cond, List, Option, Some, None, ◌≡◌, eqb}
use Rattle.machine.specs.Devices.{device?}
use Rattle.machine.specs.declared.Act.{Act}
use Rattle.soundness.specs.Findings.{Seen, pull?, applications?, reads_in}
use Rattle.soundness.specs.Watch.{held_changes, held_runs}
use Rattle.writers.specs.First.{first_in, foreign_in}
use Rattle.open_frames.specs.declared.Frames.{Frames}
use Rattle.open_frames.specs.Open.{devices_of}
use Rattle.findings.specs.declared.Breach.{Breach}
use Rattle.judge_step.specs.declared.Look.{Look}

-- A step that does this act begins with these registers and this memory, its events applied, these frames being open,
-- and with these marks. [01 Resumption; 02 §13]
pub record Begins (act : Act) (regs mem : List ℕ) (f : Frames) (writers : List ℕ) (z : Seen) : Type 0 where
  pub does : z.act ≡ act
  pub registers : z.begins.core.regs ≡ regs
  pub memory : z.begins.mem ≡ mem
  pub none : z.none_open ≡ eqb (f.open.owns + f.open.held) 0
  pub own : z.own_open ≡ eqb f.open.held 0
  pub changed : z.changes ≡ held_changes (devices_of f) z.begins
  pub by : z.runs ≡ held_runs (devices_of f)
  pub marks : z.foreign ≡ foreign_in writers

-- What is looked at before the step ends: is it the application's, what a pull finds changed, and the first byte read
-- of a device's registers and of those last written by a handler or an entry, if there is one.
-- [01 Resumption; 02 §13]
pub record Looks (l : Look) (z : Seen) : Type 0 where
  pub is_mine : l.mine ≡ applications? z
  pub is_changed : l.changed ≡ cond (pull? z.act) z.changes 0
  pub is_device : l.device ≡ cond (applications? z) (first_in device? (reads_in z)) None
  pub is_foreign : l.«foreign» ≡ cond (applications? z) (first_in z.foreign (reads_in z)) None

-- What is told of a byte read, if one is. [call judge]
abbrev pub read_amiss : Option ℕ → Option Breach
read_amiss None = None
read_amiss (Some a) = Some (record { detail = 0; address = a })
