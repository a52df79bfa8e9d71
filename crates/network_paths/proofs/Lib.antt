pub mod PushLemmas
pub mod WayLemmas
pub mod DoubleLemmas
