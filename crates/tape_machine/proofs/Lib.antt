pub mod Room
pub mod Computed
pub mod Example
pub mod LineRules
pub mod TapeRules
pub mod StartRules
