pub mod CapLemmas
pub mod ShareLemmas
pub mod PassingLemmas
pub mod TextLemmas
pub mod AgeLemmas
pub mod SizeLemmas
pub mod SaidLemmas
