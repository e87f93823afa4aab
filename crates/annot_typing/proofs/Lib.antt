pub mod Binders
-- the sorts of forms
pub mod Kept
pub mod Parts
pub mod Quantifiers
pub mod Relations
pub mod Zones
-- types that stand in them
pub mod Sizes
pub mod Casts
-- annotations one after another
pub mod Clauses
pub mod Marks
pub mod Labels
pub mod Contracts
