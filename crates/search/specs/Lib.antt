pub mod Search
pub mod Cache
pub mod CacheLaws
pub mod Bill
pub mod AnglesLaws
