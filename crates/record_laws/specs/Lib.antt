-- for readers
pub mod Days
pub mod Records
pub mod Replayed
-- re-exported from below
pub use Rattle.client_laws.specs.plant_play as plant_play
