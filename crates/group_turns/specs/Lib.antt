-- What a turn and a section of the exchange do.
pub mod Limit
pub mod Numbers
pub mod Section
