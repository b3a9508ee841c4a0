-- for readers
pub mod Turns
pub mod Due
pub mod Playing
pub mod Scripts
pub mod Logs
pub mod Cues
pub mod WholeScripts
pub mod Replays
-- inner
pub mod LogFields
pub mod Making
pub mod PlayerFields
pub mod Reels
pub mod ReelFields
-- re-exported from below
pub use Rattle.network_files.specs as network_files
pub use Rattle.plant_network.specs.plant_model
pub use Rattle.transcript.specs as transcript
