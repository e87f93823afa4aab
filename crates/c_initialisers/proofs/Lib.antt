pub mod InitialiserTrees
pub mod PartRuns
