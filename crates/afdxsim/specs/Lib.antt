pub mod Workers
pub mod Files
pub mod Orders
pub mod Performing
