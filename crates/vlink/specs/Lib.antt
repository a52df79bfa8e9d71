pub mod Order
pub mod Numbering
pub mod Wire
pub mod Moment
pub mod Letters
