pub mod Ahead
pub mod Entries
pub mod Offered
pub mod PlainLinks
pub mod OwnPorts
pub mod Ways
pub mod Linked
