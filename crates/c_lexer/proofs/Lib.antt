pub mod NameSteps
pub mod Digits
pub mod Characters
pub mod Turns
pub mod Values
pub mod Strings
pub mod CTurns
