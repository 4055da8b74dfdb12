pub mod Grid
pub mod Places
pub mod PairLaws
pub mod PlaceLaws
pub mod BlockLaws
