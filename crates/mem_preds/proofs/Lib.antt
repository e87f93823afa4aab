pub mod Questions
pub mod ReadPlaces
