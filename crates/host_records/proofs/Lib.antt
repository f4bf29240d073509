pub mod Laws
pub mod Told
pub mod Determined
