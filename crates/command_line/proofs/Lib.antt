pub mod Adding
pub mod Entering
pub mod Filling
pub mod Giving
pub mod Reading
pub mod Walking
