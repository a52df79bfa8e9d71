-- `rules` defines what nodes are and do, `undoing` how an event is taken back, and `laws` is for proofs alone.
pub mod laws
pub mod rules
pub mod undoing
pub mod Words
