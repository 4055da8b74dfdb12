pub mod Robust
pub mod Record
pub mod Parts
pub mod Residual
