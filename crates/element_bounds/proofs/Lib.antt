pub mod ReleaseLemmas
pub mod PassageLemmas
pub mod TraceLemmas
pub mod WaitingLemmas
pub mod MeterLemmas
