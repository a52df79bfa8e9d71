pub mod Letters
pub mod Counting
pub mod Occurrences
pub mod Mailing
pub mod Steps
pub mod Ordered
