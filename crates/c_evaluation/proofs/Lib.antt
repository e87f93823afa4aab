pub mod EvaluationTrees
pub mod Assignments
pub mod Sizes
pub mod Acts
pub mod Stored
pub mod Operands
