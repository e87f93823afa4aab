pub mod Gaps
pub mod Placement
pub mod Tiles
pub mod Zeros
