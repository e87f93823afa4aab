pub mod Phases
pub mod Lexed
pub mod WithinExpressions
pub mod WithinStatements
pub mod WithinTexts
pub mod Texts
