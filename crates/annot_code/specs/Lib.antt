pub mod Judged
pub mod Passages
pub mod Checks
