pub mod EarlyRows
pub mod Between
pub mod RowTimes
