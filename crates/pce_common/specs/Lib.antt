-- for readers
pub mod Messages
pub mod Refusals
pub mod Ways
pub mod Membership
pub mod Owed
pub mod Rounds
pub mod Waiting
-- inner
pub mod Branches
-- re-exported from below
pub use Rattle.plant_model.specs as plant_model
