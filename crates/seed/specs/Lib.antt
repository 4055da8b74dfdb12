pub mod Seed
pub mod Buffers
pub mod BufferLaws
