pub mod Findings
pub mod Soundness
pub mod Watch
pub mod Judge
pub mod Verdict
