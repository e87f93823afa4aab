pub mod Values
pub mod Trying
pub mod Labels
pub mod Valid
