pub mod Joined
pub mod Sayings
pub mod Sources
pub mod Due
pub mod Jobs
pub mod Completeness
pub mod Statuses
pub mod Faults
