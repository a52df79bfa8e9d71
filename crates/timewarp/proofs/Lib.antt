pub mod Counts
pub mod Beginnings
pub mod NetworkWorlds
