pub mod Behind
pub mod Names
pub mod Texts
pub mod Written
