-- for readers
pub mod Questions
pub mod Asking
pub mod Telling
pub mod Hearing
pub mod Requests
pub mod Bulk
pub mod Tallies
pub mod TallyText
-- re-exported from below
pub use Rattle.plant_play.specs as plant_play
