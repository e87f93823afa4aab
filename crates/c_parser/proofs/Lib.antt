-- statements and programs are read exactly
pub mod Openings
pub mod ExactStatements
pub mod ExactPrograms
-- what a production gives, step by step
pub mod PlaceFaults
pub mod Rows
pub mod Contracted
pub mod FirstItems
pub mod Steps
pub mod FileSteps
-- from what is given to what an answer means
pub mod Answers
