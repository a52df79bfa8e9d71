pub mod Faults
pub mod Worlds
pub mod Stepping
