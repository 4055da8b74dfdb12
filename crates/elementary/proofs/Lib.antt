pub mod AtanLaws
