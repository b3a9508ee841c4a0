-- for readers
pub mod Opening
pub mod Writing
