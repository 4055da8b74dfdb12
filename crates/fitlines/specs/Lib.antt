pub mod Fitlines
