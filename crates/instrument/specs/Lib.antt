pub mod LoopClauses
pub mod Translation
pub mod Limits
pub mod Options
pub mod LoopForms
