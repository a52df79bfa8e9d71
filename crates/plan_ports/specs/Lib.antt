pub mod Outlets
pub mod Links
