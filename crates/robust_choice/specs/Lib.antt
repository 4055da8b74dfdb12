pub mod Choice
pub mod Record
pub mod Parts
pub mod ChoiceLaws
