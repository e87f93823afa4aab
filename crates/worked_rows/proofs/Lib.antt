-- tokens
mod MonitoredTexts
mod CTexts
-- trees that rows are made of
pub mod WorkedTrees
pub mod WorkedTerms
pub mod WorkedClauses
-- the grammar
mod WorkedAnnotationGrammar
mod WorkedZoneForms
mod WorkedLoopForms
-- typing
mod WorkedSight
mod WorkedLiterals
mod WorkedOperatorTypes
mod WorkedPlaceTypes
mod WorkedUnknownStructs
mod WorkedConstants
mod WorkedInitialisers
mod WorkedStaticInitialisers
mod WorkedFileNames
mod WorkedHeadings
mod WorkedTypeLimits
mod WorkedExpressionTyping
mod WorkedStructTyping
mod WorkedSwitchTyping
mod WorkedDeclarationTyping
mod WorkedTypingFaults
mod WorkedDeclarationFaults
mod WorkedSpecifiers
mod WorkedOwnInitialisers
mod WorkedAnnotationTyping
mod WorkedAnnotationTypes
mod WorkedPredicateTyping
mod WorkedFormSorts
mod WorkedGuards
mod WorkedPointerTyping
-- the meaning
mod WorkedOperators
mod WorkedMemory
mod WorkedConnectives
mod WorkedObjects
mod WorkedQuestions
mod WorkedPlaces
mod WorkedZones
mod WorkedQuantifiers
mod WorkedQuantifierTyping
mod WorkedTermRanges
mod WorkedOperatorRanges
mod WorkedHeap
mod WorkedEffects
mod WorkedExpressions
mod WorkedSwitches
mod WorkedFormats
mod WorkedRuns
mod WorkedCalls
pub mod WorkedContracts
pub mod WorkedContractForms
pub mod WorkedContractTyping
mod WorkedBehaviors
mod WorkedLabels
mod WorkedLoops
mod WorkedJudgements
mod WorkedSearch
mod WorkedObjectAsserts
mod WorkedReports
pub mod WorkedTypings
