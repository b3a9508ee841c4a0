pub mod BeginLemmas
pub mod SoundLemmas
pub mod JobLemmas
pub mod SolveLemmas
pub mod LoadLemmas
pub mod HistoryLemmas
mod CrossingParts
pub mod Crossing
pub mod ReadyLemmas
pub mod BlindSound
pub mod BlindSolves
pub mod AnswerLemmas
pub mod InboxLemmas
pub mod CarryLemmas
pub mod RoundLaws
-- handed on from below
pub use Rattle.network_events.proofs as network_events
pub use Rattle.network_members.proofs as network_members
pub use Rattle.plant_laws.proofs as plant_laws
pub use Rattle.network_events.proofs.plant_model
