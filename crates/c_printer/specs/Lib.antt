pub mod Sight
pub mod Heads
pub mod Depths
pub mod Printing
