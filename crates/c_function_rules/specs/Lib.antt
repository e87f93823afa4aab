pub mod Blocks
pub mod Cases
pub mod Functions
pub mod PassedCases
pub mod Trees
