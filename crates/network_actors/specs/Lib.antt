-- What a network simulates, and its one-thread run.
pub mod Networks
