pub mod Shadow
pub mod Words
