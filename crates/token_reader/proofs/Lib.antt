-- a production fails as a part of it does
pub mod Faults
-- the tokens at which a text is refused
pub mod Refusals
pub mod Shorter
