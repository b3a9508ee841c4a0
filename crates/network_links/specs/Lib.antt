-- for readers
pub mod Flow
pub mod Carried
pub mod Happenings
pub mod Waiting
pub mod Quiet
pub mod Lengths
pub mod Ends
pub mod Rooms
pub mod Links
pub mod Inboxes
pub mod QuietSides
pub mod Adjacencies
pub mod Rests
-- inner
pub mod Sides
pub mod Peers
pub mod Accesses
pub mod TrafficFields
pub mod OwnFields
pub mod SideFields
pub mod ConnectionFields
pub mod LinkFields
pub mod Places
-- re-exported from below
pub use Rattle.plant_model.specs as plant_model
