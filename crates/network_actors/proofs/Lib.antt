pub mod NetworkLemmas
pub mod StatesLemmas
pub mod OneThreadRows
