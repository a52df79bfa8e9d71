pub mod Redundancy
