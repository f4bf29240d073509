pub mod Kept
pub mod Determined
