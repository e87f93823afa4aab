-- what a production gives, step by step
pub mod Rows
pub mod Steps
-- from what is given to what an answer means
pub mod Answers
