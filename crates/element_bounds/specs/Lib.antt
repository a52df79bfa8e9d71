pub mod Releases
pub mod Passages
pub mod PortTrace
