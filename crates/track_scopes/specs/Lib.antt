pub mod Blocks
pub mod Lives
