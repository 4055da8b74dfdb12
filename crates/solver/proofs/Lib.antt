pub mod SolverLaws
pub mod SoundLaws
pub mod RecordLaws
