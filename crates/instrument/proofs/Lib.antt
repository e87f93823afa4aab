-- the code is the translation
pub mod StatementTrees
pub mod SwitchCode
pub mod DeclarationCode
pub mod GlobalCode
pub mod Entries
pub mod Definitions
pub mod Grown
pub mod OwnRegisters
pub mod ContractBodies
pub mod ClauseCode
-- expressions; the relation between a call and its translation, and values, are of `c_simulation`
pub mod Own
pub mod Annotated
pub mod RangedTrees
pub mod Scenes
pub mod Evaluations
pub mod Asserts
-- initialisers
pub mod ZeroBytes
pub mod Zeros
pub mod Strings
pub mod Fillings
pub mod InitialisedVariables
pub mod Heap
pub mod LibraryNames
pub mod Library
-- places of the file, and globals
pub mod Sights
pub mod FileNumbers
pub mod Formats
pub mod Resolved
pub mod Objects
pub mod Starts
pub mod FileScope
pub mod Globals
-- statements and runs
pub mod Lives
pub mod Deaths
pub mod Births
pub mod Blocks
pub mod Loops
pub mod Variants
pub mod Switches
pub mod Declared
pub mod Sight
pub mod Throughout
pub mod Passages
pub mod Statements
pub mod Parameters
pub mod CallEnds
pub mod KeptPlans
pub mod Functions
pub mod ContractCalls
pub mod CheckedCalls
pub mod ContractAsserts
pub mod MainCalls
pub mod Numbers
pub mod Programs
pub mod Bodies
pub mod Callees
-- what typing and ranges tell of labels and contracts
pub mod CheckedFunctions
pub mod KeptTerms
pub mod LabelSites
pub mod KeptFunctions
pub mod ContractTerms
pub mod ContractGood
pub mod FunctionsStand
pub mod KnownContracts
-- whole runs
pub mod Correct
pub mod ProgramRuns
-- validity
pub mod FormedTrees
pub mod FormedSizes
pub mod TypedDefinitions
pub mod Parentheses
pub mod FullParentheses
pub mod Typed
pub mod FullShapes
pub mod FullDepths
pub mod Parts
pub mod LaidOut
pub mod FullTyped
pub mod FullValid
pub mod ValidInitialisers
pub mod Tables
pub mod ValidBlocks
pub mod Writable
pub mod ValidAsserts
pub mod ValidClauses
pub mod Keepable
pub mod KeepablePlans
pub mod KeptRegisters
pub mod ValidContracts
pub mod Names
pub mod Depths
pub mod ValidStatements
pub mod ValidRegisters
pub mod ValidResults
pub mod ValidPrints
pub mod ValidCalls
pub mod ValidPrograms
pub mod ProgramValidity
-- examples, by computation
mod WorkedMembers
mod WorkedTranslations
mod WorkedTurns
mod WorkedContracts
