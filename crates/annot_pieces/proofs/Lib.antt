pub mod Rust
pub mod Arms
pub mod Around
pub mod Others
pub mod Stored
pub mod ZonePairs
