pub mod EventLemmas
pub mod FeedLemmas
pub mod GoingLemmas
pub mod LineLemmas
mod LogLemmas
pub mod ShownLemmas
pub mod TurnLemmas
pub mod PlayedLines
pub mod ReplayLemmas
pub mod ReelLemmas
pub mod ScriptLemmas
-- handed on from below
pub use Rattle.plant_network.proofs.plant_model
