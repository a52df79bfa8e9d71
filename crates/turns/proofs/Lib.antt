mod FirstOutcome
mod Order
mod TurnPieces
pub mod Told
