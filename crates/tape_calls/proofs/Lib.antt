pub mod Performing
pub mod Determined
