pub mod Past
pub mod Queues
pub mod Committing
pub mod Running
pub mod Arriving
