pub mod Edges
pub mod NearLaws
pub mod EdgesLaws
