pub mod HopLemmas
pub mod LineLemmas
pub mod RouteLemmas
pub mod SwitchLemmas
pub mod RoutedLemmas
