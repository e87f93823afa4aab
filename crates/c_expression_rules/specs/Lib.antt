pub mod Callees
pub mod Constants
pub mod Forms
pub mod Operators
pub mod Structs
