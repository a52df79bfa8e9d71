pub mod Traces
pub mod Written
pub mod Counts
