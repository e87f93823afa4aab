pub mod Answers
pub mod Laws
pub mod Terms
pub mod Bases
pub mod Judged
pub mod InSight
pub mod Seen
