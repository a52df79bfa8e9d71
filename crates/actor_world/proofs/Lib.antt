pub mod Finishing
pub mod Holding
pub mod Acting
pub mod Exchanging
pub mod Answering
pub mod Opening
pub mod Reading
