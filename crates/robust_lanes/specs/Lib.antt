pub mod Lanes
pub mod BoundLaws
pub mod SkipLaws
pub mod LaneLaws
