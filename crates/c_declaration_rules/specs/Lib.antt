pub mod Objects
pub mod Initialisers
pub mod Declarations
pub mod Layouts
pub mod Statics
pub mod OpenStructs
pub mod Members
pub mod Enumerators
