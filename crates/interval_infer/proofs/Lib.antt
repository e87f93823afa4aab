pub mod Sound
pub mod Terms
pub mod Binders
pub mod Bases
mod SeenNames
pub mod Tried
mod Ranged
mod Rows
mod FunctionRows
mod Contracts
pub mod Blocks
-- examples, by computation
mod WorkedRanges
pub mod Judged
pub mod Scopes
mod ContractScopes
pub mod Sights
pub mod JudgedKinds
pub mod InSight
