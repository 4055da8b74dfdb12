pub mod ModelLaws
