pub mod Ages
pub mod Deliveries
pub mod Ports
