pub mod Ports
pub mod Ways
pub mod Sizes
pub mod Latencies
pub mod Waits
pub mod Rooms
