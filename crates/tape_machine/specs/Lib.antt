pub mod Told
pub mod Text
pub mod Performs
pub mod Lines
pub mod Run
pub mod Program
