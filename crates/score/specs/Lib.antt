pub mod Score
pub mod ScoreLaws
