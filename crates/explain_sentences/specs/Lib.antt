pub mod Sentences
pub mod SentencesLaws
