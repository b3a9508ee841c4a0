-- for readers
pub mod Keys
pub mod Entries
pub mod SameKeys
-- inner
pub mod Hops
pub mod Shown
