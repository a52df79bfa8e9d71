pub mod Outcomes
pub mod Conclusions
pub mod Running
pub mod Leaving
pub mod Lacking
pub mod Streams
pub mod Holding
pub mod Heard
