pub mod Laws
pub mod Bitwise
pub mod Decide
