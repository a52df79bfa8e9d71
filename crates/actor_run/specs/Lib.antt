pub mod Running
pub mod RunningAhead
pub mod Load
pub mod Recording
