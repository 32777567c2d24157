-- "loading them restores that span and touches no other byte; the buffer past the text is kept" (document 02, §2), of
-- the two calls: what an accepted write call left, handed to a load call.
-- Assumes nothing.
use Rattle.std.specs.Prelude.{ℕ, ◌/◌, ◌%◌, ◌≡◌, List, length, take, drop}
use Rattle.srec_trip.specs.Trip.{Restored}
use Rattle.srec_call.specs.Call.{load_reply, load_call_of}

-- The write call was handed memory, start, size, pc and text; it gave the reply and left text'.
module _ (memory : List ℕ) (start size pc : ℕ) (text : List ℕ) (reply : ℕ) (text' : List ℕ) where
  -- the text that it wrote
  abbrev pub wrote : List ℕ
  wrote = take (reply / 256) text'

  -- Loaded into memory', with a PC of pc': accepted, with the PC written; the span restored, no other byte touched.
  -- [02 §2]
  pub record LoadsBack (memory' : List ℕ) (pc' : ℕ) : Type 0 where
    pub accepted : (load_call_of memory' wrote pc').reply ≡ load_reply 0 pc 0
    pub restored : Restored memory start size memory' (load_call_of memory' wrote pc').memory

  pub record RoundTrip : Type 0 where
    pub kept : drop (reply / 256) text' ≡ drop (reply / 256) text
    pub back : (memory' : List ℕ) (pc' : ℕ) → length memory' ≡ 65536 → LoadsBack memory' pc'

  -- the promise of every write call, whole. [02 §2]
  abbrev pub Restores : Type 0
  Restores = reply % 256 ≡ 0 → RoundTrip
