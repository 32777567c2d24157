-- The definitions that the exported call promises. Assumes nothing.
-- xm23_trace replies and leaves what trace_call_of gives: traced_of is what a step adds, run_traced the run with room for so
-- many records. [call trace]
pub use Rattle.trace.specs.Trace.{Entry, traced_of, entry_bytes}
pub use Rattle.trace.specs.Traced.{Traced, run_traced}
pub use Rattle.trace.specs.Call.{trace_call_of}
