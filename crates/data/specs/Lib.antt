pub mod Data
pub mod Disk
pub mod RowLaws
