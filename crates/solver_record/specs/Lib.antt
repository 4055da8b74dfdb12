pub mod Fit
pub mod Record
pub mod FitLaws
