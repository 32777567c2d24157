-- The definitions that the exported call promises. Assumes nothing.
-- xm23_run replies and leaves what run_call_of gives for its buffers and n, and deepest_left in the number lent: deepest_of
-- is the greatest number of open frames. Resumption is demand 3 of that call, across the application's own traps.
-- [01 Who can be turned back; 02 §10; 01 Resumption; 02 §13]
pub use Rattle.machine.specs.Call.{Closing, run_call_of}
pub use Rattle.resume.specs.Deepest.{deepest_of, deepest_left}
pub use Rattle.resume.specs.Resumption.{Resumption}
