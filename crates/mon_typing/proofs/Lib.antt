-- names and registers
pub mod Names
pub mod Registers
pub mod GlobalNumbers
pub mod Rooms
pub mod Headers
pub mod Labels
-- the program is what the definition says
pub mod Parts
pub mod Lists
pub mod Values
pub mod Calls
pub mod Statements
pub mod Functions
pub mod Programs
pub mod WholeTexts
-- what is checked is valid
pub mod Holds
pub mod Words
pub mod Typed
pub mod Validity
