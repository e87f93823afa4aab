pub mod Wrapped
pub mod Bitwise
pub mod Shifts
