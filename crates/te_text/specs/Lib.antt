-- for readers
pub mod Given
pub mod RowText
pub mod Reading
pub mod Reads
pub mod TopologyText
-- inner
pub mod Gathered
pub mod Spelled
