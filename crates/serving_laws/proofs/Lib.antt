pub mod Loads
pub mod Opening
pub mod Writing
