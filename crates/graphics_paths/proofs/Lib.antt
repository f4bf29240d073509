pub mod Colour
