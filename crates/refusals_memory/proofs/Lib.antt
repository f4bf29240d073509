pub mod Shapes
pub mod Told
