pub mod DigitLemmas
pub mod StepLemmas
pub mod LineLemmas
pub mod TextLemmas
pub mod AnswerLemmas
