pub mod Initialisers
pub mod Letters
pub mod Translation
