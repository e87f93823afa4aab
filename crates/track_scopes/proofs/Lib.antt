pub mod Sequences
pub mod Births
pub mod Deaths
