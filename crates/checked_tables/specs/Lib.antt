pub mod Tables
pub mod Parts
pub mod TableLaws
pub mod Promises
