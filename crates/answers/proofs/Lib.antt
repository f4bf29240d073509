pub mod Told
pub mod StoredRules
pub mod Determined
