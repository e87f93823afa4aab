pub mod Given
pub mod Rules
pub mod Commands
