pub mod Answers
pub mod Settled
pub mod Complete
pub mod Faults
