pub mod Latencies
pub mod Destinations
pub mod Losses
pub mod Tables
pub mod Counting
pub mod Cells
pub mod Text
pub mod SoFar
