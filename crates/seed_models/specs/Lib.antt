pub mod Models
pub mod Words
pub mod Parts
pub mod WordLaws
pub mod WalkLaws
pub mod HeldLaws
