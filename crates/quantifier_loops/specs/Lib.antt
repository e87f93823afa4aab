pub mod Upward
pub mod Tries
pub mod Laws
pub mod Plain
