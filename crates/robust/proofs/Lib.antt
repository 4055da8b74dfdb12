pub mod SoundLaws
pub mod KnownLaws
pub mod RecordLaws
pub mod FoldLaws
pub mod RobustLaws
pub mod ResidualLaws
