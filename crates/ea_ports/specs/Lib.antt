pub mod Port
pub mod Files
pub mod Calls
pub mod Memory
pub mod Host
pub mod HostFiles
pub mod Buffered
