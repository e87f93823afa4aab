pub mod ParsedTrees
pub mod Reading
pub mod Answers
