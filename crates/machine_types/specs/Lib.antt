pub mod Start
pub mod Lengths
pub mod Slices
