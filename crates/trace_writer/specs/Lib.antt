pub mod WrittenTrace
