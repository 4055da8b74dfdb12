pub mod Frames
pub mod FramesLaws
pub mod RunsLaws
pub mod Promises
pub mod Rows
pub mod LinePromises
