pub mod RemainderLaws
