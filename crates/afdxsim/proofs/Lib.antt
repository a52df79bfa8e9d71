pub mod Running
pub mod Heard
pub mod Statuses
pub mod Ended
pub mod Journals
pub mod Doing
