pub mod Geometry
pub mod GeometryLaws
