pub mod Windows
pub mod DirectJudged
pub mod ShownOffsets
