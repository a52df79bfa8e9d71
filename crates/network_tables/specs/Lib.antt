pub mod Meeting
pub mod PortLaws
