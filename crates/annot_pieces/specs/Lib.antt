pub mod Tables
pub mod Plain
