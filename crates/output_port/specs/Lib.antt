pub mod Port
pub mod Undoing
pub mod StrictPriority
