pub mod Records
pub mod Arguments
