pub mod Networks
pub mod Committed
