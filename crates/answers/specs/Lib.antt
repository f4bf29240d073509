pub mod Answers
pub mod Wide
