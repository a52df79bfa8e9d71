-- The definition of nodes: what each does with a message, how it begins, and the simulation that a network gives.
pub mod EndSystem
pub mod Finding
pub mod Line
pub mod Meeting
pub mod Node
pub mod Opening
pub mod Outputs
pub mod Placed
pub mod Ports
pub mod Simulation
pub mod Switch
