pub mod Questions
pub mod Reads
pub mod Laws
