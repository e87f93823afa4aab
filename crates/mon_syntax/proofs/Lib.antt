-- runs, and the memories that they run over
pub mod Rows
pub mod Fuel
pub mod Wrapping
pub mod FlatBlocks
pub mod Agreement
-- flat memory stands for blocks
pub mod FlatLists
pub mod FlatWorlds
pub mod FlatTogether
pub mod FlatPointers
pub mod FlatAddresses
pub mod FlatNotes
pub mod FlatBirths
pub mod FlatDeaths
pub mod FlatRegions
pub mod FlatYoungest
pub mod FlatFrames
pub mod FlatStack
pub mod FlatEntries
pub mod FlatGlobals
pub mod FlatStart
pub mod FlatWritten
pub mod FlatAccesses
pub mod FlatStores
pub mod FlatLoads
pub mod FlatValues
pub mod FlatFinds
pub mod FlatNumbers
pub mod FlatRanges
pub mod FlatQuestions
pub mod FlatAnswers
pub mod Strings
pub mod FlatStrings
pub mod FlatPlaces
pub mod FlatHeap
pub mod FlatCopies
pub mod FlatFreed
pub mod FlatOperators
pub mod FlatAgreement
pub mod FlatLaws
-- the grammar is exact
pub mod ExactTokens
pub mod ExactExpressions
pub mod ExactStatements
pub mod ExactTexts
-- the text of a valid program is read again
pub mod PrintedPieces
pub mod PrintedForms
pub mod PrintedAlone
pub mod PrintedSteps
pub mod PrintedExpressions
pub mod PrintedCalls
pub mod PrintedBodies
pub mod PrintedArguments
pub mod PrintedSimple
pub mod PrintedStatements
pub mod PrintedRegisters
pub mod PrintedGlobals
pub mod PrintedFunctions
pub mod PrintedTexts
-- examples, by computation
pub mod WorkedRuns
pub mod WorkedCalls
mod WorkedMemory
mod WorkedHeap
mod WorkedTexts
-- registers and definitions, while functions are made
pub mod Indices
pub mod ObjectIndices
pub mod Bindings
