-- What code is told of a step, and the findings after it (document 01, "Resumption"; document 02, §13).
-- Assumes nothing.
use Rattle.std.specs.Prelude.{◌≡◌, ℕ, Bool, cond, not, ◌&&◌, ◌||◌, Option, Some, None}
use Rattle.soundness.specs.Findings.{Kind, started, faulted, unopened, trapped, unclosed, changed, slept, device}
use Rattle.soundness.specs.Findings.{foreign}
use Rattle.soundness.specs.Findings.{Finding, Seen, breaks?, detail_of, address_of, find_after}
use Rattle.findings.specs.declared.Kind as code
use Rattle.findings.specs.declared.Kind.TheVariants as kinds
use Rattle.findings.specs.declared.Breach.{Breach}
use Rattle.findings.specs.declared.Shown.{Shown}

-- The place of a kind among the findings. [call judge]
abbrev pub number_of : code.Kind → ℕ
number_of kinds.Started = 0
number_of kinds.Faulted = 1
number_of kinds.Unopened = 2
number_of kinds.Trapped = 3
number_of kinds.Unclosed = 4
number_of kinds.Changed = 5
number_of kinds.Slept = 6
number_of kinds.Device = 7
number_of kinds.Foreign = 8

-- What is to be told of the breach that a step makes of a kind, if it makes one. [01 Resumption; 02 §13]
abbrev pub breach_of : Kind → Seen → Option Breach
breach_of κ z = cond (breaks? κ z) (Some (record { detail = detail_of κ z; address = address_of κ z })) None

-- The breaches that x has are those of a step that shows z. [01 Resumption; 02 §13]
pub record Shows (x : Shown) (z : Seen) : Type 0 where
  pub is_faulted : x.faulted ≡ breach_of faulted z
  pub is_unopened : x.unopened ≡ breach_of unopened z
  pub is_trapped : x.trapped ≡ breach_of trapped z
  pub is_changed : x.changed ≡ breach_of changed z
  pub is_slept : x.slept ≡ breach_of slept z
  pub is_device : x.device ≡ breach_of device z
  pub is_foreign : x.«foreign» ≡ breach_of foreign z

-- The step that shows z makes a breach of this kind, and none was found before it; of one of the kinds that are a step's.
-- [01 Resumption; call judge]
abbrev pub first? : Kind → Seen → (Kind → Finding) → Bool
first? κ z f = breaks? κ z && not (f κ).found

abbrev pub tells? : Seen → (Kind → Finding) → Bool
tells? z f =
    first? faulted z f || first? unopened z f || first? trapped z f || first? changed z f || first? slept z f || first? device z f
    || first? foreign z f

-- What is found after step k, which shows z, of the kinds that are a step's. [01 Resumption]
abbrev pub told_after : (k : ℕ) → Seen → (Kind → Finding) → Kind → Finding
told_after k z f started = f started
told_after k z f faulted = find_after faulted k z (f faulted)
told_after k z f unopened = find_after unopened k z (f unopened)
told_after k z f trapped = find_after trapped k z (f trapped)
told_after k z f unclosed = f unclosed
told_after k z f changed = find_after changed k z (f changed)
told_after k z f slept = find_after slept k z (f slept)
told_after k z f device = find_after device k z (f device)
told_after k z f foreign = find_after foreign k z (f foreign)
