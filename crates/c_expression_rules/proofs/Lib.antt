pub mod Gives
pub mod Folding
pub mod Besides
pub mod Small
pub mod Demands
pub mod Calls
pub mod Expressions
pub mod SmallForms
