pub mod BurstLemmas
pub mod HeldLemmas
