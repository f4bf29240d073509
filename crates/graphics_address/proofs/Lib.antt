pub mod Anywhere
pub mod Determined
