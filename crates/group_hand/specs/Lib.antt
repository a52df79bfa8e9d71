pub mod Arriving
pub mod Becoming
pub mod Handling
pub mod Hands
pub mod Passing
pub mod Undoing
pub mod Answered
