pub mod Texts
pub mod Tapes
pub mod Runs
pub mod Determined
