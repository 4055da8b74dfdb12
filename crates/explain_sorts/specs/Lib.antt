pub mod Sorts
pub mod SortsLaws
