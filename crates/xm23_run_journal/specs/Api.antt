-- The definitions that the exported call promises. Assumes nothing.
-- xm23_run_journal replies and leaves what run_journal_of gives, closing and journal, with the figure and the resumption
-- of an accepted run call. [02 §8; 02 §10; 01 Resumption; 02 §13]
pub use Rattle.journal.specs.Ring.{Journal, journal_of}
pub use Rattle.journal.specs.Call.{JournalClosing, run_journal_of}
pub use Rattle.xm23_run_journal.specs.Journal.{journal_deepest_left, JournalResumption}
