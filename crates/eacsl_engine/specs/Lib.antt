pub mod Annotations
pub mod Ends
