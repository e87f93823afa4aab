pub mod Answers
pub mod Files
pub mod KnownStructs
pub mod NotedFiles
pub mod NotedContracts
pub mod NotedLabels
pub mod Rooms
pub mod Standing
