pub mod Nothing
pub mod Counting
pub mod LawfulRows
pub mod TraceText
pub mod WrittenRun
pub mod FinishedRun
pub mod Written
pub mod CountedRun
