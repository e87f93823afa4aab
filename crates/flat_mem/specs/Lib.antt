pub mod Room
pub mod Births
pub mod Deaths
pub mod Tidy
pub mod Placed
pub mod Stack
