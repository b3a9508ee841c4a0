-- for readers
pub mod Worlds
pub mod Seen
pub mod Jobs
pub mod Lasting
pub mod Blind
-- inner
pub mod Topologies
pub mod Items
pub mod Pinned
pub mod Rows
pub mod Leaving
pub mod Fields
pub mod Changes
pub mod Plans
pub mod Tellers
pub mod Endings
pub mod Answering
pub mod Committing
pub mod Joining
-- re-exported from below
pub use Rattle.pce_common.specs as pce_common
