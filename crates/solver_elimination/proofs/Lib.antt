pub mod WideLaws
pub mod LastEntryLaws
