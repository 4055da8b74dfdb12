pub mod Solver
pub mod Record
pub mod Buffers
