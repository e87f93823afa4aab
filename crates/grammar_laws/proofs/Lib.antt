-- of productions over any tokens
pub mod Inclusions
pub mod Chains
pub mod Tokens
-- what stands in itself
pub mod ExpressionKnots
pub mod AnnotationKnots
pub mod AloneLevels
pub mod Tails
pub mod SumTurns
pub mod ZoneLevels
-- productions
pub mod ExpressionProductions
pub mod TypeProductions
pub mod AssignmentProductions
pub mod CommaLists
pub mod DeclarationProductions
pub mod FirstNames
pub mod StatementProductions
pub mod FileProductions
pub mod DeclaratorProductions
pub mod FirstWords
pub mod ParameterProductions
pub mod AnnotationProductions
pub mod ClauseProductions
pub mod ChainProductions
pub mod MonitoredProductions
