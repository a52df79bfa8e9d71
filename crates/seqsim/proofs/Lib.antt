pub mod CommittedRows
pub mod RowsByProcess
