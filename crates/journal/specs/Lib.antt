-- The journal: the meaning of its entries, and the list of them.
pub mod Moves
pub mod Deeds
pub mod Listing
pub mod Faults
