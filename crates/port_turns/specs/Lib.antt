pub mod Nodes
pub mod PortTimer
pub mod SwitchPuts
pub mod PortEvents
pub mod PortRuns
pub mod Arrivals
