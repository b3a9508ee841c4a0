pub mod KeyLemmas
pub mod PendingLemmas
pub mod LendLemmas
pub mod FindLemmas
pub mod RowLemmas
pub mod Searching
pub mod CountLemmas
