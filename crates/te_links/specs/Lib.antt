-- for readers
pub mod Rows
pub mod Limits
pub mod Faults
pub mod Built
pub mod Reads
pub mod Index
pub mod Arrivals
-- inner
pub mod Fields
pub mod Grouped
pub mod Indexed
pub mod Survey
pub mod Checks
