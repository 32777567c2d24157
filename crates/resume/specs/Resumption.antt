-- Demand 3, across the application's own traps, at one run call: of the buffers that the call was handed, and of the
-- memory and the state record that it leaves (document 01, "Resumption"; document 02, §1, §13).
-- Assumes nothing.
use Rattle.std.specs.Prelude.{ℕ, suc, ◌<◌, true, false, List, [], ◌≡◌, Ok}
use Rattle.machine.specs.Memory.{byte_at}
use Rattle.machine.specs.Record.{state_in}
use Rattle.machine.specs.Events.{events_of}
use Rattle.machine.specs.Devices.{device?}
use Rattle.machine.specs.Refusal.{call_verdict}
use Rattle.machine.specs.Call.{run_on}
use Rattle.machine.specs.declared.Act.TheVariants as acts
use Rattle.resume.specs.Frames.{NoChain, act, application?, application_steps, foreign?}
use Rattle.resume.specs.Resume.{Premises, alone, Agree, ReadAfterPull}

-- The call was handed memory, r and events, did n steps, and leaves memory' and r'. [01 Resumption; 02 §1]
module _ (memory r events : List ℕ) (n : ℕ) (memory' r' : List ℕ) where
  -- "at the run's close": what the call leaves, beside the run with no events. [01 Resumption]
  pub record CloseAgrees : Type 0 where
    pub core : (state_in r' memory').core ≡ (alone memory r events n).core
    pub bytes : (a : ℕ) → a < 65536 → device? a ≡ false → foreign? (events_of events) (state_in r memory) n a ≡ false
        → byte_at memory' a ≡ byte_at (alone memory r events n).mem a

  -- "before each of its steps, after its last and at the run's close", the outcome of a chaining step "read after the
  -- pull"; and "The event-free run takes the same traps": as in Resume, but for the close. [01 Resumption; 02 §13]
  pub record CallResumes : Type 0 where
    pub before_step : (k : ℕ) → k < n → application? (events_of events) (state_in r memory) k ≡ true
        → Agree memory r events k
    pub after_step : (k : ℕ) → k < n → application? (events_of events) (state_in r memory) k ≡ true
        → NoChain (act (events_of events) (state_in r memory) k)
        → Agree memory r events (suc k)
    pub after_chaining : (k d : ℕ) → k < n → application? (events_of events) (state_in r memory) k ≡ true
        → act (events_of events) (state_in r memory) k ≡ acts.Chain d
        → ReadAfterPull memory r events n k
    pub at_close : CloseAgrees
    pub same_steps : (k : ℕ) → k < n → application? (events_of events) (state_in r memory) k ≡ true
        → NoChain (act (events_of events) (state_in r memory) k)
        → act [] (state_in r memory) (application_steps (events_of events) (state_in r memory) k)
        ≡ act (events_of events) (state_in r memory) k
    pub same_return : (k d : ℕ) → k < n → application? (events_of events) (state_in r memory) k ≡ true
        → act (events_of events) (state_in r memory) k ≡ acts.Chain d
        → act [] (state_in r memory) (application_steps (events_of events) (state_in r memory) k) ≡ acts.Pull

-- Demand 3, whole, of an accepted call: its run is the steps done, and the run with no events that it is compared with
-- is the one with no limit, "lent a log long enough". [01 Resumption; 02 §1; 02 §13]
abbrev pub Resumption : (memory r events log : List ℕ) (n : ℕ) (memory' r' : List ℕ) → Type 0
Resumption memory r events log n memory' r' =
    call_verdict memory r events log n ≡ Ok tt →
    Premises memory r events (run_on memory r events log n).steps →
    CallResumes memory r events (run_on memory r events log n).steps memory' r'
