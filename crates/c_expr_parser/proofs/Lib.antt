-- single tokens, types and expressions are read exactly
pub mod ExactTokens
pub mod ExactTypes
pub mod Unlimited
pub mod ExactExpressions
-- what a production gives, step by step
pub mod Words
pub mod Steps
pub mod Levels
pub mod BracketTurns
pub mod PostfixTurns
pub mod Calls
pub mod Arrays
-- expressions that stand in no other, within the limit of their tokens
pub mod Windows
-- which runs of tokens an expression takes
pub mod TakenTokens
pub mod SolidExpressions
-- from what is given to what an answer means
pub mod Answers
