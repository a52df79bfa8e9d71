pub mod Program
pub mod Meaning
pub mod Given
