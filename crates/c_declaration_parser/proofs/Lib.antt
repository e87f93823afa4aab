-- declarations are read exactly
pub mod ExactDeclarations
-- what a production gives, step by step
pub mod Rows
pub mod Turns
pub mod DeclarationSteps
pub mod DeclaratorWindows
