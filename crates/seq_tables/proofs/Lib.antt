pub mod Marks
pub mod Carries
pub mod Premises
pub mod RowLemmas
