pub mod Plain
-- productions as they are written
pub mod ExpressionProductions
pub mod DeclarationProductions
pub mod StatementProductions
pub mod FileProductions
pub mod AnnotationProductions
pub mod ClauseProductions
pub mod MonitoredProductions
-- at each depth
pub mod Laws
pub mod MonitoredLaws
