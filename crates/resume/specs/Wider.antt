-- Wider premises, under which the same is true: SVC may come while a device frame is open, its frame then being a
-- device's, to be found as entry left it; and the application's own frames may be open at the close. The premises of
-- Resume, which are those that document 02, §13 words, imply these.
-- Assumes nothing.
use Rattle.std.specs.Prelude.{ℕ, suc, ◌<◌, true, false, List, ◌∷◌, ◌≡◌}
use Rattle.word.specs.Psw.{asleep?}
use Rattle.machine.specs.State.{State}
use Rattle.machine.specs.Record.{state_in}
use Rattle.machine.specs.Events.{Event, events_of}
use Rattle.machine.specs.Devices.{device?}
use Rattle.machine.specs.declared.Act.TheVariants as acts
use Rattle.machine_laws.specs.Bounds.{Each}
use Rattle.resume.specs.Frames.{Start, Frame, Calm, own?, reads_of, after, due, act, frames, application?}
use Rattle.resume.specs.Frames.{foreign?}
use Rattle.resume.specs.Resume.{Found}

module _ (memory r events : List ℕ) where
  -- the event list and the state that the buffers hold. [01 State and memory]
  abbrev list : List Event
  list = events_of events

  abbrev start : State
  start = state_in r memory

  -- What a run of n is to keep; fields and words as in Resume but for the two marked. [01 Resumption; 02 §13]
  pub record WiderPremises (n : ℕ) : Type 0 where
    pub accepted : Start memory r events n
    pub awake : asleep? start.core.psw ≡ false
    pub not_halted : start.halted ≡ false
    pub no_line : start.lines ≡ 0
    -- SVC is let in wherever it comes
    pub calm : (k : ℕ) → k < n → Calm (act list start k) (frames list start k)
    -- only the devices' frames need be closed
    pub devices_closed : own? (frames list start n) ≡ true
    pub restored : (k : ℕ) (f : Frame) (fs : List Frame) → k < n → act list start k ≡ acts.Pull
        → frames list start k ≡ f ∷ fs
        → f.own ≡ false
        → Found f.held (due list start k)
    pub never_sleeps : (k : ℕ) → k < n → application? list start k ≡ true
        → asleep? (after list start (suc k)).core.psw ≡ false
    pub reads_own : (k : ℕ) → k < n → application? list start k ≡ true
        → Each (λ a. (device? a ≡ false) × (foreign? list start k a ≡ false))
        (reads_of (act list start k) (due list start k).core)
