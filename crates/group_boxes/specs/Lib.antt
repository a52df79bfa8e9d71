-- Letters in transit between groups of processes.
pub mod Boxing
