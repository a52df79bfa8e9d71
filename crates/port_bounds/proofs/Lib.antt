pub mod FrameLemmas
pub mod ShareLemmas
pub mod StartLemmas
pub mod HighLemmas
pub mod LowLemmas
pub mod SublistLemmas
pub mod PacingLemmas
pub mod ArrivalLemmas
pub mod MixtureLemmas
pub mod WaitLemmas
mod Examples
