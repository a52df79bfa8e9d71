pub mod Horizon
