pub mod Warnings
pub mod WarningsLaws
