pub mod Meeting
pub mod Turn
