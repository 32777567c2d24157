-- The definitions that the exported call promises. Assumes nothing.
-- xm23_judge replies and leaves what judge_call_of gives: closing_told are the findings of the judged run. Judgement is
-- its promise: no kind is found exactly if Premises of resume holds, and then the run ends as it would with no events;
-- a kind is found exactly if its own premise fails, first at the step told. [call judge; 01 Resumption; 02 §13]
pub use Rattle.soundness.specs.Judge.{JudgeClosing, judge_call_of}
pub use Rattle.soundness.specs.Verdict.{TrueVerdict, Judgement}
