pub mod Runs
pub mod WrittenForm
pub mod Numbering
pub mod Once
pub mod Settled
pub mod Least
pub mod Blind
pub mod Keys
pub mod Reasons
pub mod LastingLemmas
-- handed on from below
pub use Rattle.plant_model.proofs as plant_model
