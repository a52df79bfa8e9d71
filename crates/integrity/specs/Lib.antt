pub mod Integrity
