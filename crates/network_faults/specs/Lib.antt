pub mod RowLists
pub mod Packed
pub mod Lookups
