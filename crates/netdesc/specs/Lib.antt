pub mod Description
pub mod Words
