pub mod Passing
pub mod PassingOn
pub mod Sending
pub mod Summing
