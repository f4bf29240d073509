pub mod RecordRules
pub mod Sizes
pub mod Judging
pub mod Determined
