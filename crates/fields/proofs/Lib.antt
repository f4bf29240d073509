pub mod Fields
pub mod Selects
pub mod Bit0
