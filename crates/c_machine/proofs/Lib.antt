-- numbers of 128 bits
pub mod Wrapped
pub mod Bitwise
-- the state: operands, what is taken from the source, and memory
pub mod Operands
pub mod Depths
pub mod States
pub mod Taken
-- instructions
pub mod Moves
pub mod Writes
pub mod Strings
pub mod Acted
pub mod Beginnings
pub mod Pointing
pub mod Calling
pub mod Asked
pub mod Kept
-- runs
pub mod Measure
pub mod Levels
pub mod Courses
pub mod Finished
-- runs that are done at once
pub mod Pieces
pub mod Leaping
pub mod Sequence
pub mod Cases
pub mod Valued
pub mod Ends
pub mod Alone
pub mod Asserting
pub mod Checking
pub mod Through
pub mod Indexed
pub mod KeptTerms
