-- The exchange of groups: what its values are for contracts, what stays true of them, and what each call does.
pub mod Telling
pub mod Listing
pub mod Rows
pub mod Views
pub mod Keeps
pub mod Effects
pub mod Opening
