pub mod Limit
pub mod Starts
pub mod Busy
