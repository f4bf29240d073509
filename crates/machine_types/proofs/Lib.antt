pub mod Loans
pub mod OneAnswer
pub mod Determined
