-- Path keys: each is issued for its segment, lasts for its life, and is expanded as it was.
pub mod KeysKept
pub mod Keyed
pub mod KeyedRuns
pub mod Expands
pub mod KeysHold
pub mod KeysIssued
pub mod KeysLast
pub mod LifeKept
