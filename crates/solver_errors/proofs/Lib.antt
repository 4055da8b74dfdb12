pub mod StdErrorsLaws
pub mod CappedLaws
