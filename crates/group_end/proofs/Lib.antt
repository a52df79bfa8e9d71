pub mod Turning
pub mod Rounds
pub mod Places
pub mod Swapping
pub mod Longer
