pub mod Elementary
pub mod SelectLaws
pub mod SizeLaws
pub mod NumberLaws
pub mod TanhLaws
pub mod ElementaryLaws
pub mod PointLaws
