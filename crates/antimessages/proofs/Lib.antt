pub mod Counts
pub mod Changes
pub mod Entering
pub mod Last
mod Boxes
pub mod Agreeing
pub mod After
pub mod Newest
pub mod First
mod Beginning
mod Told
pub mod Following
