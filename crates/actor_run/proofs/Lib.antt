pub mod Counting
pub mod Handling
pub mod Loading
pub mod Errors
pub mod Waits
pub mod Passing
pub mod Advancing
