pub mod QuestionLemmas
pub mod TellingLemmas
pub mod AskingLemmas
pub mod TallyLemmas
pub mod BulkLemmas
-- handed on from below
pub use Rattle.plant_play.proofs as plant_play
