-- for readers
pub mod Tapes
pub mod Hands
-- inner
pub mod Fields
pub mod Counting
