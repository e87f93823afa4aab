pub mod Evaluated
pub mod Ready
