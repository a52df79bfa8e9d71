pub mod Latencies
pub mod Rooms
pub mod Shapes
pub mod Contract
pub mod Columns
