pub mod Writes
pub mod Records
