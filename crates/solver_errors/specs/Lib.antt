pub mod StdErrors
pub mod Parts
pub mod Known
