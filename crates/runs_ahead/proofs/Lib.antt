pub mod Passing
pub mod Standing
pub mod Running
pub mod Beginnings
pub mod Answered
