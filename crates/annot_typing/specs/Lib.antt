pub mod Forms
pub mod Joined
pub mod Limits
pub mod Quantifiers
pub mod Relations
pub mod Sights
pub mod Sorts
pub mod Zones
