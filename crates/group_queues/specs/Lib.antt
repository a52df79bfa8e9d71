pub mod Block
pub mod DoneEvents
pub mod Flow
pub mod Rows
pub mod Counted
pub mod Sealing
pub mod Trail
pub mod Waiting
