pub mod Offers
pub mod Limits
pub mod Counting
pub mod Places
pub mod Own
pub mod Plain
pub mod Lawful
