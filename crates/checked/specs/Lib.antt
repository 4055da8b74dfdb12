pub mod Checked
pub mod Parts
pub mod CheckedLaws
pub mod Promises
