-- integers, pointers, registers and types
pub mod ExpressionTypes
pub mod Integers
pub mod Registers
pub mod Results
pub mod Bounds
pub mod Pointers
pub mod Steps
-- what goes on from part to part
pub mod Following
pub mod Calls
-- expressions
pub mod Values
pub mod Printing
pub mod PointerValues
pub mod Evaluating
pub mod Reaching
pub mod Places
pub mod Anchors
pub mod Expressions
pub mod PureValues
pub mod ExpressionLaws
-- stores
pub mod Compounds
pub mod Stores
pub mod Copies
-- expressions with effects anywhere
pub mod Settled
pub mod Unchanged
pub mod Members
pub mod Operands
pub mod Conditions
pub mod Designated
pub mod Arguments
pub mod AssignedObjects
pub mod StoredValues
pub mod Assignments
pub mod Changes
pub mod Dropped
pub mod Casts
pub mod EffectForms
pub mod EffectLaws
pub mod EffectLetters
