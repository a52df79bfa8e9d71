pub mod Answers
pub mod Plain
pub mod Rules
pub mod Setting
pub mod Sending
