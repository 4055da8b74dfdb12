pub mod BillLaws
pub mod SoundLaws
