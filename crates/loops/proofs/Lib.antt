pub mod IterLaws
pub mod TabLaws
