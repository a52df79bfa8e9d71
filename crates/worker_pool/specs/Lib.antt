pub mod Outcomes
pub mod Segments
pub mod Runs
pub mod Gatherings
pub mod Starts
pub mod Paces
