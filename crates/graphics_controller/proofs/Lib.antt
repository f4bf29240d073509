pub mod Accesses
pub mod Determined
