-- A node before its last change, and when a change is the last one.
pub mod Changes
pub mod Node
pub mod Ports
