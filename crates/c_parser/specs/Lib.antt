pub mod Contracted
pub mod Reading
pub mod Answers
