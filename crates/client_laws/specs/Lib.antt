-- for readers
pub mod Told
pub mod Asked
pub mod Received
pub mod Resting
pub mod Served
pub mod Answered
pub mod Ended
pub mod Laws
pub mod Headline
pub mod Disclosing
-- re-exported from below
pub use Rattle.run_laws.specs as run_laws
pub use Rattle.run_laws.specs.plant_laws
pub use Rattle.plant_play.specs.plant_model
pub use Rattle.plant_play.specs as plant_play
