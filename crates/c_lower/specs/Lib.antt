pub mod Code
pub mod Machine
pub mod Sound
pub mod Levels
pub mod Lowered
pub mod Laws
pub mod Labels
pub mod Entries
