-- The exchange: what its values are for contracts, what they keep, and what each call does.
pub mod Views
pub mod Keeps
pub mod Effects
